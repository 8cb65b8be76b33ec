-- Ranges, member by member and attack by attack.
use Rattle.std.proofs.Common.{◌≡◌, ◌+◌, ◌<◌, ◌≤◌, ℕ, List, [], ◌∷◌, ◌++◌, length, get_or, take, subst, inl, inr, ⊎_elim, refl}
use Rattle.std.specs.Prelude.{◌↔◌, ◌⊎◌, Contains}
use Rattle.std.proofs.lemmas.List.{take_more, take_all}
use Rattle.std.proofs.lemmas.List.Elements.{Contains-push_cases, Contains-append_left, Contains-push}
use Rattle.lists.proofs.Membership.{Contains-nil}
use Rattle.attack_index.specs.semantics.specs.Framework.{Af, IsAttackedBy, IsInRange}
use Rattle.lists.specs.Members.{IsSetOf}
use Rattle.dung_notions.specs.Neighbours.{ListsTargets}
use Rattle.dung_notions.specs.Ranges.{GainsTargets}

-- the list has gained the second numbers of the first n pairs
abbrev pub HasSeconds : List (ℕ × ℕ) → ℕ → List ℕ → List ℕ → Type 0
HasSeconds pairs n old new =
    (a : ℕ) → Contains new a ↔ (Contains old a ⊎ ((b : ℕ) × Contains (take n pairs) (b, a)))

pub seconds_none : (pairs : List (ℕ × ℕ)) (old : List ℕ) → HasSeconds pairs 0 old old
seconds_none pairs old a =
    (λ c. inl c, λ h. ⊎_elim (λ c. c) (λ w. absurd (Contains-nil (w.0, a) w.1)) h)

pub seconds_more : (pairs : List (ℕ × ℕ)) (n : ℕ) (old new : List ℕ) → n < length pairs → HasSeconds pairs n old new
    → HasSeconds pairs (n + 1) old (new ++ (get_or pairs n (0, 0)).1 ∷ [])
seconds_more pairs n old new lt before a =
    let p = get_or pairs n (0, 0) in
    let is : take (n + 1) pairs ≡ take n pairs ++ p ∷ [] = take_more pairs n (0, 0) lt in (
      λ h. ⊎_elim
          (λ c. ⊎_elim (λ o. inl o)
          (λ w. inr (w.0, rw is (Contains-append_left (take n pairs) (p ∷ []) (w.0, a) w.1))) ((before a).0 c))
          (λ e. inr (
            p.0,
            rw is (subst (λ x. Contains (take n pairs ++ p ∷ []) (p.0, x)) e
                (Contains-push (take n pairs) p)),
          ))
          (Contains-push_cases new p.1 a h),
      λ h. ⊎_elim (λ o. Contains-append_left new (p.1 ∷ []) a ((before a).1 (inl o)))
          (λ w. ⊎_elim (λ c. Contains-append_left new (p.1 ∷ []) a ((before a).1 (inr (w.0, c))))
          (λ (e : p ≡ (w.0, a)). subst (λ (q : ℕ × ℕ). Contains (new ++ p.1 ∷ []) q.1) e (Contains-push new p.1))
          (Contains-push_cases (take n pairs) p (w.0, a) (rw is at w.1))) h,
    )

-- the list has the set and what the first n members attack
abbrev pub HasRange : Af → List ℕ → ℕ → List ℕ → Type 0
HasRange f set n found = (a : ℕ) → Contains found a ↔ (Contains set a ⊎ IsAttackedBy f (take n set) a)

pub range_none : (f : Af) (set : List ℕ) → HasRange f set 0 set
range_none f set a = (λ c. inl c, λ h. ⊎_elim (λ c. c) (λ w. absurd (Contains-nil w.0 w.1)) h)

pub range_more : (f : Af) (set : List ℕ) (n : ℕ) (old new : List ℕ) → n < length set → HasRange f set n old
    → GainsTargets f (get_or set n 0) old new → HasRange f set (n + 1) new
range_more f set n old new lt before gains a =
    let b = get_or set n 0 in
    let is : take (n + 1) set ≡ take n set ++ b ∷ [] = take_more set n 0 lt in (
      λ h. ⊎_elim
          (λ c. ⊎_elim (λ o. inl o)
          (λ w. inr (w.0, rw is (Contains-append_left (take n set) (b ∷ []) w.0 w.1), w.2)) ((before a).0 c))
          (λ att. inr (b, rw is (Contains-push (take n set) b), att))
          ((gains a).0 h),
      λ h. (gains a).1 (⊎_elim (λ o. inl ((before a).1 (inl o)))
          (λ w. ⊎_elim (λ c. inl ((before a).1 (inr (w.0, c, w.2))))
          (λ (e : b ≡ w.0). inr (rw e w.2))
          (Contains-push_cases (take n set) b w.0 (rw is at w.1))) h),
    )

pub seconds_all : (f : Af) (b : ℕ) (pairs : List (ℕ × ℕ)) (n : ℕ) (old new : List ℕ) → ListsTargets f b pairs
    → length pairs ≤ n → HasSeconds pairs n old new → GainsTargets f b old new
seconds_all f b pairs n old new lists end has a =
    let whole = take_all n pairs end in (
      λ h. ⊎_elim (λ o. inl o)
          (λ w. inr ((lists.targets w.0 a).0 (rw whole at w.1)).1) ((has a).0 h),
      λ h. (has a).1 (⊎_elim (λ o. inl o)
          (λ att. inr (b, rw whole ((lists.targets b a).1 (refl, att)))) h),
    )

pub range_all : (f : Af) (set : List ℕ) (n : ℕ) (found range : List ℕ) → length set ≤ n → HasRange f set n found
    → IsSetOf (Contains found) range → IsSetOf (IsInRange f set) range
range_all f set n found range end has is =
    let whole = take_all n set end in record {
      rises = is.rises;
      members = λ a. (
        λ h. ⊎_elim (λ o. inl o) (λ w. inr (w.0, rw whole at w.1, w.2)) ((has a).0 ((is.members a).0 h)),
        λ h. (is.members a).1 ((has a).1 (⊎_elim (λ o. inl o) (λ w. inr (w.0, rw whole w.1, w.2)) h)),
      );
    }
