-- Preferred sets round admissible ones, and the ideal set, found by going through all sets of live arguments.
use Rattle.std.proofs.Common.{◌⊎◌, inl, inr, ⊎_elim, ℕ, List, [], ◌∷◌, ◌++◌, map, refl, sym, subst, ap}
use Rattle.std.specs.Prelude.{Contains}
use Rattle.std.proofs.lemmas.List.{append_assoc}
use Rattle.std.proofs.lemmas.List.Elements.{Contains-append_cases}
use Rattle.lists.specs.Members.{IsWithin}
use Rattle.lists.proofs.Membership.{Contains-nil, Contains-head, Contains-tail, Contains-cons_cases, IsWithin-refl, IsWithin-trans}
use Rattle.semantics.specs.Framework.{Af, IsAdmissible, IsPreferred, IsInAllPreferred, IsIdeal}
use Rattle.semantics.specs.Laws.{AttacksMember, AdmissibleIsInPreferred}
use Rattle.semantics.specs.Compared.{HasNoLarger, HoldsInAll}
use Rattle.semantics.specs.Sets.{HasAllSets, HasLarger}
use Rattle.semantics.proofs.Decided.{Decided, decide_both, decide_each, decide_implied, decide_member}
use Rattle.semantics.proofs.DecidedNotions.{decide_admissible}
use Rattle.semantics.proofs.AdmissibleSets.{union_admissible, within_left, within_right}
use Rattle.semantics.proofs.ListedSets.{no_larger, in_preferred, holds_in_all}
use Rattle.semantics.proofs.SetsLemmas.{all_of_none, all_of_more}

-- the empty set is admissible
pub empty_admissible : (f : Af) → IsAdmissible f []
empty_admissible f = record {
  conflict_free = record {
    live = λ x c. absurd (Contains-nil x c);
    apart =
        λ b a cb ca at. absurd (Contains-nil b cb);
  };
  defended = λ a c. absurd (Contains-nil a c);
}

-- each set of a list as it is and with a number more
abbrev with_each : ℕ → List (List ℕ) → List (List ℕ)
with_each n [] = []
with_each n (s ∷ sets) = s ∷ (s ++ n ∷ []) ∷ with_each n sets

each_larger : (n : ℕ) (sets : List (List ℕ)) → HasLarger n sets (with_each n sets)
each_larger n [] t c = absurd (Contains-nil t c)
each_larger n (s ∷ sets) t c =
    let rest = with_each n sets in
    ⊎_elim
    (λ e. (
      Contains-head s ((s ++ n ∷ []) ∷ rest) t e,
      Contains-tail s ((s ++ n ∷ []) ∷ rest) (t ++ n ∷ [])
          (Contains-head (s ++ n ∷ []) rest (t ++ n ∷ []) (ap (λ z. z ++ n ∷ []) e)),
    ))
    (λ later. let both = each_larger n sets t later in (
      Contains-tail s ((s ++ n ∷ []) ∷ rest) t (Contains-tail (s ++ n ∷ []) rest t both.0),
      Contains-tail s ((s ++ n ∷ []) ∷ rest) (t ++ n ∷ []) (Contains-tail (s ++ n ∷ []) rest (t ++ n ∷ []) both.1),
    ))
    (Contains-cons_cases s sets t c)

-- all sets made of some numbers, and of more
list_more : (front rest : List ℕ) (sets : List (List ℕ)) → HasAllSets front sets → (all : List (List ℕ))
    × HasAllSets (front ++ rest) all
list_more front [] sets h = (
  sets,
  λ t sub. h t (λ x c. ⊎_elim (λ k. k) (λ none. absurd (Contains-nil x none))
      (Contains-append_cases front [] x (sub x c))),
)
list_more front (n ∷ rest) sets h =
    let more = list_more (front ++ n ∷ []) rest (with_each n sets) (all_of_more front n sets (with_each n sets) h
    (each_larger n sets)) in
    (more.0, subst (λ numbers. HasAllSets numbers more.0) (append_assoc front (n ∷ []) rest) more.1)

pub all_sets : (numbers : List ℕ) → (all : List (List ℕ)) × HasAllSets numbers all
all_sets numbers = list_more [] numbers ([] ∷ []) (all_of_none [] [] ([] ∷ []) refl refl refl)

-- an admissible set that holds this one, and no listed admissible set is larger
record IsGrown (f : Af) (sets : List (List ℕ)) (s t : List ℕ) : Type 0 where
  admissible : IsAdmissible f t
  holds : IsWithin s t
  largest : (u : List ℕ) → Contains sets u → HasNoLarger f t u

-- a set that is admissible and holds this one
abbrev IsLarger : Af → List ℕ → List ℕ → Type 0
IsLarger f s u = IsAdmissible f u × IsWithin s u

pub decide_within : (s t : List ℕ) → Decided (IsWithin s t)
decide_within s t = decide_each (λ x. Contains t x) (λ x. decide_member t x) s

grown : (f : Af) (sets : List (List ℕ)) (s : List ℕ) → IsAdmissible f s → (t : List ℕ) × IsGrown f sets s t
grown f [] s ok =
    (s, record { admissible = ok; holds = IsWithin-refl s; largest = λ u c. absurd (Contains-nil u c) })
grown f (u ∷ sets) s ok =
    ⊎_elim
    (λ larger. let r = grown f sets u larger.0 in (
      r.0,
      record {
        admissible = r.1.admissible;
        holds = IsWithin-trans s u r.0 larger.1 r.1.holds;
        largest = λ v c. ⊎_elim
            (λ e. subst (λ w. HasNoLarger f r.0 w) e (record { back = λ is sub. r.1.holds }))
            (λ later. r.1.largest v later) (Contains-cons_cases u sets v c);
      },
    ))
    (λ none. let r = grown f sets s ok in (
      r.0,
      record {
        admissible = r.1.admissible;
        holds = r.1.holds;
        largest = λ v c. ⊎_elim
            (λ e. subst (λ w. HasNoLarger f r.0 w) e
            (record { back = λ is sub. absurd (none (is, IsWithin-trans s r.0 u r.1.holds sub)) }))
            (λ later. r.1.largest v later) (Contains-cons_cases u sets v c);
      },
    ))
    (decide_both (decide_admissible f u) (decide_within s u))

pub preferred_round : (f : Af) → AdmissibleIsInPreferred f
preferred_round f s ok =
    let all = all_sets f.live in
    let r = grown f all.0 s ok in
    (r.0, record { admissible = r.1.admissible; maximal = no_larger f all.0 r.0 all.1 r.1.largest }, r.1.holds)

decide_preferred : (f : Af) (s : List ℕ) → Decided (IsPreferred f s)
decide_preferred f s =
    let all = all_sets f.live in
    ⊎_elim
    (λ h. inl (record { admissible = h.0; maximal = no_larger f all.0 s all.1 (λ u c. record { back = h.1 u c }) }))
    (λ no. inr (λ p. no (p.admissible, λ u c ok sub. p.maximal u ok sub)))
    (decide_both (decide_admissible f s)
    (decide_each (λ u. IsAdmissible f u → IsWithin s u → IsWithin u s)
    (λ u. decide_implied (decide_admissible f u) (decide_implied (decide_within s u) (decide_within u s))) all.0))

decide_in_all : (f : Af) (s : List ℕ) → Decided (IsInAllPreferred f s)
decide_in_all f s =
    let all = all_sets f.live in
    ⊎_elim
    (λ h. inl (record { admissible = h.0; within = in_preferred f all.0 s all.1 (λ p c. record { within = h.1 p c }) }))
    (λ no. inr (λ h. no (h.admissible, λ p c pref. h.within p pref)))
    (decide_both (decide_admissible f s)
    (decide_each (λ p. IsPreferred f p → IsWithin s p) (λ p. decide_implied (decide_preferred f p) (decide_within s p))
    all.0))

-- of two sets that are part of one preferred set, neither attacks the other
no_attack : (f : Af) (s t p : List ℕ) → IsPreferred f p → IsWithin s p → IsWithin t p → AttacksMember f s t → ⊥
no_attack f s t p pref left right h =
    pref.admissible.conflict_free.apart h.2.0 h.0 (left h.2.0 h.2.1) (right h.0 h.1) h.2.2

-- two sets that are part of every preferred set are so together
union_in_all : (f : Af) (s t : List ℕ) → IsInAllPreferred f s → IsInAllPreferred f t → IsInAllPreferred f (s ++ t)
union_in_all f s t left right =
    let round = preferred_round f [] (empty_admissible f) in
    let p = round.0 in let pref = round.1 in
    let in_p = left.within p pref in let also = right.within p pref in
    record {
      admissible = union_admissible f s t left.admissible right.admissible (no_attack f s t p pref in_p also)
          (no_attack f t s p pref also in_p);
      within = λ q chosen x c. ⊎_elim (λ k. left.within q chosen x k) (λ k. right.within q chosen x k)
          (Contains-append_cases s t x c);
    }

-- a set that is part of every preferred one, and holds this one and each listed set that is
record IsJoined (f : Af) (sets : List (List ℕ)) (s t : List ℕ) : Type 0 where
  in_all : IsInAllPreferred f t
  holds : IsWithin s t
  largest : (u : List ℕ) → Contains sets u → HoldsInAll f t u

joined : (f : Af) (sets : List (List ℕ)) (s : List ℕ) → IsInAllPreferred f s → (t : List ℕ) × IsJoined f sets s t
joined f [] s ok = (s, record { in_all = ok; holds = IsWithin-refl s; largest = λ u c. absurd (Contains-nil u c) })
joined f (u ∷ sets) s ok =
    ⊎_elim
    (λ too. let r = joined f sets (s ++ u) (union_in_all f s u ok too) in (
      r.0,
      record {
        in_all = r.1.in_all;
        holds = IsWithin-trans s (s ++ u) r.0 (within_left s u) r.1.holds;
        largest = λ v c. ⊎_elim
            (λ e. subst (λ w. HoldsInAll f r.0 w) e
            (record { back = λ is. IsWithin-trans u (s ++ u) r.0 (within_right s u) r.1.holds }))
            (λ later. r.1.largest v later) (Contains-cons_cases u sets v c);
      },
    ))
    (λ none. let r = joined f sets s ok in (
      r.0,
      record {
        in_all = r.1.in_all;
        holds = r.1.holds;
        largest = λ v c. ⊎_elim
            (λ e. subst (λ w. HoldsInAll f r.0 w) e (record { back = λ is. absurd (none is) }))
            (λ later. r.1.largest v later) (Contains-cons_cases u sets v c);
      },
    ))
    (decide_in_all f u)

pub ideal_exists : (f : Af) → (s : List ℕ) × IsIdeal f s
ideal_exists f =
    let all = all_sets f.live in
    let empty : IsInAllPreferred f [] =
    record { admissible = empty_admissible f; within = λ p pref x c. absurd (Contains-nil x c) } in
    let r = joined f all.0 [] empty in
    (r.0, record { in_all = r.1.in_all; largest = holds_in_all f all.0 r.0 all.1 r.1.largest })
