-- Lists of all sets of some numbers grow with the numbers.
use Rattle.std.proofs.Common.{◌≡◌, ◌≢◌, ◌<◌, ◌+◌, ◌==◌, inl, inr, ⊎_elim, ℕ, Bool, true, not, List, [], ◌∷◌, ◌++◌, take, length, get_or, refl, sym, subst, ap, ◌∙◌}
use Rattle.std.specs.Prelude.{Contains, filter}
use Rattle.std.proofs.lemmas.Bool.{cases_eq, ne_eqb, not-true, eqb-false}
use Rattle.std.proofs.lemmas.List.{take_more}
use Rattle.std.proofs.lemmas.List.Elements.{Contains-append_left, Contains-push_cases}
use Rattle.lists.specs.Members.{IsWithin}
use Rattle.lists.proofs.Membership.{Contains-nil, Contains-pushed}
use Rattle.lists.proofs.Filters.{Contains-filter}
use Rattle.semantics.specs.Laws.{HasSameMembers}
use Rattle.semantics.specs.Sets.{IsListed, HasAllSets, HasLarger}
use Rattle.semantics.proofs.Decided.{decide_member}

pub larger_none : (n : ℕ) (all : List (List ℕ)) → HasLarger n [] all
larger_none n all s c = absurd (Contains-nil s c)

-- one more set is copied, and made larger
pub larger_more : (n : ℕ) (sets all mid new : List (List ℕ)) (k : ℕ) (x copy big : List ℕ) → k < length sets → x
    ≡ get_or sets k x
    → mid ≡ all ++ copy ∷ [] → copy ≡ x → new ≡ mid ++ big ∷ [] → big ≡ x ++ n ∷ []
    → HasLarger n (take k sets) all → HasLarger n (take (k + 1) sets) new
larger_more n sets all mid new k x copy big lt is first copied second grown h s c =
    let made : new ≡ (all ++ x ∷ []) ++ (x ++ n ∷ []) ∷ [] =
    second ∙ ap (λ z. z ++ big ∷ []) (first ∙ ap (λ z. all ++ z ∷ []) copied)
    ∙ ap (λ z. (all ++ x ∷ []) ++ z ∷ []) grown in
    rw made (⊎_elim
    (λ front. (
      Contains-append_left (all ++ x ∷ []) _ s (Contains-append_left all (x ∷ []) s (h s front).0),
      Contains-append_left (all ++ x ∷ []) _ (s ++ n ∷ []) (Contains-append_left all (x ∷ []) (s ++ n ∷ [])
          (h s front).1),
    ))
    (λ e. let same : x ≡ s = is ∙ e in (
      Contains-append_left (all ++ x ∷ []) _ s (Contains-pushed all x s same),
      Contains-pushed (all ++ x ∷ []) (x ++ n ∷ []) (s ++ n ∷ []) (ap (λ z. z ++ n ∷ []) same),
    ))
    (Contains-push_cases (take k sets) (get_or sets k x) s (subst (λ z. Contains z s) (take_more sets k x lt) c)))

-- the empty set is the one set of no numbers
pub all_of_none : (none : List (List ℕ)) (empty : List ℕ) (sets : List (List ℕ)) → none ≡ [] → empty ≡ []
    → sets ≡ none ++ empty ∷ [] → HasAllSets [] sets
all_of_none none empty sets no_set no_member made t sub = record {
  set = [];
  member = rw made (Contains-pushed none empty [] no_member);
  same = record { there = λ x c. absurd (Contains-nil x c); back = sub };
}

-- the members but one
abbrev others : ℕ → List ℕ → List ℕ
others n t = filter (λ x. not (x == n)) t

others_have : (n x : ℕ) (t : List ℕ) → Contains t x → x ≢ n → Contains (others n t) x
others_have n x t c ne = (Contains-filter (λ y. not (y == n)) t x).1 (c, rw (ne_eqb x n ne) refl)

pub others_from : (n x : ℕ) (t : List ℕ) → Contains (others n t) x → Contains t x × (x ≢ n)
others_from n x t c = let both = (Contains-filter (λ y. not (y == n)) t x).0 c in
    (both.0, eqb-false x n (not-true (x == n) both.1))

pub all_of_more : (numbers : List ℕ) (n : ℕ) (old new : List (List ℕ)) → HasAllSets numbers old → HasLarger n old new
    → HasAllSets (numbers ++ n ∷ []) new
all_of_more numbers n old new all larger t sub =
    ⊎_elim
    (λ has.
    let l = all (others n t) (λ x c. let from = others_from n x t c in
    ⊎_elim (λ k. k) (λ e. absurd (from.1 (sym e))) (Contains-push_cases numbers n x (sub x from.0))) in
    record {
      set = l.set ++ n ∷ [];
      member = (larger l.set l.member).1;
      same = record {
        there = λ x c. ⊎_elim (λ k. (others_from n x t (l.same.there x k)).0) (λ e. subst (λ z. Contains t z) e has)
            (Contains-push_cases l.set n x c);
        back = λ x c. ⊎_elim (λ e. Contains-pushed l.set n x (sym e))
            (λ ne. Contains-append_left l.set (n ∷ []) x (l.same.back x (others_have n x t c ne))) (cases_eq x n);
      };
    })
    (λ lacks.
    let l = all t (λ x c. ⊎_elim (λ k. k) (λ e. absurd (lacks (subst (λ z. Contains t z) (sym e) c)))
    (Contains-push_cases numbers n x (sub x c))) in
    record { set = l.set; member = (larger l.set l.member).0; same = l.same })
    (decide_member t n)
