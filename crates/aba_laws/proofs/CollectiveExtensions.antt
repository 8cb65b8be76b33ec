-- Preferred, stable and ideal sets under collective attacks.
use Rattle.std.proofs.Common.{inl, inr, ⊎_elim, ℕ, List, [], ◌∷◌, ◌++◌, refl, subst}
use Rattle.std.specs.Prelude.{Contains}
use Rattle.std.proofs.lemmas.List.Elements.{Contains-append_left, Contains-append_right, Contains-append_cases}
use Rattle.lists.specs.Members.{IsWithin}
use Rattle.lists.proofs.Membership.{Contains-nil, Contains-head, Contains-cons_cases, IsWithin-refl, IsWithin-trans}
use Rattle.semantics.specs.Laws.{HasSameMembers}
use Rattle.semantics.specs.Sets.{HasAllSets}
use Rattle.semantics.proofs.Decided.{Decided, decide_both, decide_each, decide_implied, decide_member}
use Rattle.semantics.specs.Collectives.{Collective, AttacksMember, IsAdmissible, IsPreferred, IsStable, IsInAllPreferred}
use Rattle.aba_laws.specs.Laws.{StableIsPreferred, PreferredIsComplete, AdmissibleIsInPreferred, InAllIsUnattacked, IdealByOthers, IdealIsUnique}
use Rattle.aba_laws.proofs.CollectiveSets.{IsLawful, member_more, decide_attacks_member, defended_admissible, union_admissible, empty_admissible, admissible_same, decide_admissible}
use Rattle.semantics.proofs.Existence.{all_sets, decide_within}
use Rattle.semantics.proofs.SameMembers.{turned}

-- if the other set is admissible and holds this one, it is no larger
abbrev pub HasNoLarger : Collective → List ℕ → List ℕ → Type 0
HasNoLarger d s t = IsAdmissible d t → IsWithin s t → IsWithin t s

-- if the other set is part of every preferred one, this one holds it
abbrev pub HoldsInAll : Collective → List ℕ → List ℕ → Type 0
HoldsInAll d s t = IsInAllPreferred d t → IsWithin t s

-- a set that is admissible and holds this one, and no listed admissible set is larger
record IsGrown (d : Collective) (sets : List (List ℕ)) (s t : List ℕ) : Type 0 where
  admissible : IsAdmissible d t
  holds : IsWithin s t
  largest : (u : List ℕ) → Contains sets u → HasNoLarger d t u

-- a set that is part of every preferred one, and holds this one and each listed set that is
record IsJoined (d : Collective) (sets : List (List ℕ)) (s t : List ℕ) : Type 0 where
  in_all : IsInAllPreferred d t
  holds : IsWithin s t
  largest : (u : List ℕ) → Contains sets u → HoldsInAll d t u

module _ (d : Collective) (lawful : IsLawful d) where
  pub preferred_same : (s t : List ℕ) → HasSameMembers s t → IsPreferred d s → IsPreferred d t
  preferred_same s t same p = record {
    admissible = admissible_same d lawful s t same p.admissible;
    maximal = λ u ok sub x c. same.there x (p.maximal u ok (λ y k. sub y (same.there y k)) x c);
  }

  pub in_all_same : (s t : List ℕ) → HasSameMembers s t → IsInAllPreferred d s → IsInAllPreferred d t
  in_all_same s t same h = record {
    admissible = admissible_same d lawful s t same h.admissible;
    within = λ p pref x c. h.within p pref x (same.back x c);
  }

  -- what holds of each listed set holds of every set, where all sets are listed
  pub no_larger : (sets : List (List ℕ)) (s : List ℕ) → HasAllSets d.live sets
      → ((t : List ℕ) → Contains sets t → HasNoLarger d s t) → (t : List ℕ) → HasNoLarger d s t
  no_larger sets s all h t ok sub x c =
      let l = all t ok.conflict_free.live in
      h l.set l.member (admissible_same d lawful t l.set (turned l.set t l.same) ok) (λ y k. l.same.back y (sub y k)) x
      (l.same.back x c)

  pub in_preferred : (sets : List (List ℕ)) (s : List ℕ) → HasAllSets d.live sets
      → ((t : List ℕ) → Contains sets t → IsPreferred d t → IsWithin s t) → (t : List ℕ) → IsPreferred d t
      → IsWithin s t
  in_preferred sets s all h t ok x c =
      let l = all t ok.admissible.conflict_free.live in
      l.same.there x (h l.set l.member (preferred_same t l.set (turned l.set t l.same) ok) x c)

  pub holds_in_all : (sets : List (List ℕ)) (s : List ℕ) → HasAllSets d.live sets
      → ((t : List ℕ) → Contains sets t → HoldsInAll d s t) → (t : List ℕ) → HoldsInAll d s t
  holds_in_all sets s all h t ok x c =
      let l = all t ok.admissible.conflict_free.live in
      h l.set l.member (in_all_same t l.set (turned l.set t l.same) ok) x (l.same.back x c)

  grown : (sets : List (List ℕ)) (s : List ℕ) → IsAdmissible d s → (t : List ℕ) × IsGrown d sets s t
  grown [] s ok =
      (s, record { admissible = ok; holds = IsWithin-refl s; largest = λ u c. absurd (Contains-nil u c) })
  grown (u ∷ sets) s ok =
      ⊎_elim
      (λ larger. let r = grown sets u larger.0 in (
        r.0,
        record {
          admissible = r.1.admissible;
          holds = IsWithin-trans s u r.0 larger.1 r.1.holds;
          largest = λ v c. ⊎_elim
              (λ e. subst (λ w. HasNoLarger d r.0 w) e (λ is sub. r.1.holds))
              (λ later. r.1.largest v later) (Contains-cons_cases u sets v c);
        },
      ))
      (λ none. let r = grown sets s ok in (
        r.0,
        record {
          admissible = r.1.admissible;
          holds = r.1.holds;
          largest = λ v c. ⊎_elim
              (λ e. subst (λ w. HasNoLarger d r.0 w) e
              (λ is sub. absurd (none (is, IsWithin-trans s r.0 u r.1.holds sub))))
              (λ later. r.1.largest v later) (Contains-cons_cases u sets v c);
        },
      ))
      (decide_both (decide_admissible d lawful u) (decide_within s u))

  pub preferred_round : AdmissibleIsInPreferred d
  preferred_round s ok =
      let all = all_sets d.live in
      let r = grown all.0 s ok in
      (r.0, record { admissible = r.1.admissible; maximal = no_larger all.0 r.0 all.1 r.1.largest }, r.1.holds)

  pub decide_preferred : (s : List ℕ) → Decided (IsPreferred d s)
  decide_preferred s =
      let all = all_sets d.live in
      ⊎_elim
      (λ h. inl (record { admissible = h.0; maximal = no_larger all.0 s all.1 h.1 }))
      (λ no. inr (λ p. no (p.admissible, λ u c ok sub. p.maximal u ok sub)))
      (decide_both (decide_admissible d lawful s)
      (decide_each (λ u. IsAdmissible d u → IsWithin s u → IsWithin u s)
      (λ u. decide_implied (decide_admissible d lawful u) (decide_implied (decide_within s u) (decide_within u s)))
      all.0))

  decide_in_all : (s : List ℕ) → Decided (IsInAllPreferred d s)
  decide_in_all s =
      let all = all_sets d.live in
      ⊎_elim
      (λ h. inl (record { admissible = h.0; within = in_preferred all.0 s all.1 h.1 }))
      (λ no. inr (λ h. no (h.admissible, λ p c pref. h.within p pref)))
      (decide_both (decide_admissible d lawful s)
      (decide_each (λ p. IsPreferred d p → IsWithin s p) (λ p. decide_implied (decide_preferred p) (decide_within s p))
      all.0))

  pub preferred_complete : PreferredIsComplete d
  preferred_complete s p = record {
    admissible = p.admissible;
    closed = λ a live h.
        let one : (P : ℕ → Type 0) → P a → (x : ℕ) → Contains (a ∷ []) x → P x =
        λ P at x c. ⊎_elim (λ e. subst P e at) (λ none. absurd (Contains-nil x none)) (Contains-cons_cases a [] x c) in
        p.maximal (s ++ a ∷ [])
        (defended_admissible d lawful s (a ∷ []) p.admissible (one (λ x. Contains d.live x) live)
        (one (λ x. (t : List ℕ) → IsWithin t d.live → d.attacks t x → AttacksMember d s t) h))
        (λ x c. Contains-append_left s (a ∷ []) x c) a
        (Contains-append_right s (a ∷ []) a (Contains-head a [] a refl));
  }

  stable_admissible : (s : List ℕ) → IsStable d s → IsAdmissible d s
  stable_admissible s st = record {
    conflict_free = st.conflict_free;
    defended = λ a c t live at. ⊎_elim (λ hit. hit)
        (λ quiet. absurd (st.conflict_free.apart a c (lawful.more t s a
        (λ x k. ⊎_elim (λ here. here) (λ out. absurd (quiet (x, k, st.attacks_outside x (live x k) out)))
        (decide_member s x)) at)))
        (decide_attacks_member d lawful s t);
  }

  pub stable_preferred : StableIsPreferred d
  stable_preferred s st = record {
    admissible = stable_admissible s st;
    maximal = λ t ok sub x c. ⊎_elim (λ here. here)
        (λ out. absurd (ok.conflict_free.apart x c
        (lawful.more s t x sub (st.attacks_outside x (ok.conflict_free.live x c) out))))
        (decide_member s x);
  }

  pub unattacked_in_all : (s : List ℕ) → IsAdmissible d s
      → ((t : List ℕ) → IsAdmissible d t → AttacksMember d t s → ⊥) → IsInAllPreferred d s
  unattacked_in_all s ok none = record {
    admissible = ok;
    within = λ p pref.
        let quiet = none p pref.admissible in
        let back : AttacksMember d s p → ⊥ =
        λ h. quiet (pref.admissible.defended h.0 h.1 s ok.conflict_free.live h.2) in
        λ x c. pref.maximal (p ++ s) (union_admissible d lawful p s pref.admissible ok quiet back)
        (λ y k. Contains-append_left p s y k) x (Contains-append_right p s x c);
  }

  pub in_all_unattacked : InAllIsUnattacked d
  in_all_unattacked s ok = (
    λ h t good at.
        let round = preferred_round t good in
        let hit = member_more d lawful t round.0 s round.2 at in
        round.1.admissible.conflict_free.apart hit.0 (h.within round.0 round.1 hit.0 hit.1) hit.2,
    unattacked_in_all s ok,
  )

  -- two sets that are part of every preferred set are so together
  union_in_all : (s t : List ℕ) → IsInAllPreferred d s → IsInAllPreferred d t → IsInAllPreferred d (s ++ t)
  union_in_all s t left right = record {
    admissible = union_admissible d lawful s t left.admissible right.admissible
        ((in_all_unattacked t right.admissible).0 right s left.admissible)
        ((in_all_unattacked s left.admissible).0 left t right.admissible);
    within = λ p pref x c. ⊎_elim (λ k. left.within p pref x k) (λ k. right.within p pref x k)
        (Contains-append_cases s t x c);
  }

  pub ideal_by_others : IdealByOthers d
  ideal_by_others s others ok each none largest =
      let in_all = unattacked_in_all s ok none in
      record {
        in_all = in_all;
        largest = λ t it x c.
            let both = union_in_all s t in_all it in
            largest (s ++ t) both.admissible (λ y k. Contains-append_left s t y k)
            (λ o member. (in_all_unattacked (s ++ t) both.admissible).0 both o (each o member))
            x (Contains-append_right s t x c);
      }

  joined : (sets : List (List ℕ)) (s : List ℕ) → IsInAllPreferred d s → (t : List ℕ) × IsJoined d sets s t
  joined [] s ok = (s, record { in_all = ok; holds = IsWithin-refl s; largest = λ u c. absurd (Contains-nil u c) })
  joined (u ∷ sets) s ok =
      ⊎_elim
      (λ too. let r = joined sets (s ++ u) (union_in_all s u ok too) in (
        r.0,
        record {
          in_all = r.1.in_all;
          holds = IsWithin-trans s (s ++ u) r.0 (λ x c. Contains-append_left s u x c) r.1.holds;
          largest = λ v c. ⊎_elim
              (λ e. subst (λ w. HoldsInAll d r.0 w) e
              (λ is. IsWithin-trans u (s ++ u) r.0 (λ x c. Contains-append_right s u x c) r.1.holds))
              (λ later. r.1.largest v later) (Contains-cons_cases u sets v c);
        },
      ))
      (λ none. let r = joined sets s ok in (
        r.0,
        record {
          in_all = r.1.in_all;
          holds = r.1.holds;
          largest = λ v c. ⊎_elim
              (λ e. subst (λ w. HoldsInAll d r.0 w) e (λ is. absurd (none is)))
              (λ later. r.1.largest v later) (Contains-cons_cases u sets v c);
        },
      ))
      (decide_in_all u)

  pub ideal_unique : IdealIsUnique d
  ideal_unique = record {
    exists =
        let all = all_sets d.live in
        let empty : IsInAllPreferred d [] =
        record {
          admissible = empty_admissible d lawful;
          within = λ p pref x c. absurd (Contains-nil x c);
        } in
        let r = joined all.0 [] empty in
        (r.0, record { in_all = r.1.in_all; largest = holds_in_all all.0 r.0 all.1 r.1.largest });
    one = λ s t is it. record { there = it.largest s is.in_all; back = is.largest t it.in_all };
    admissible = λ s i. i.in_all.admissible;
  }
