-- Rising lists of numbers that gain or lose one.
use Rattle.std.proofs.Common.{◌≡◌, ◌<◌, ℕ, true, Bool, not, List, ◌∷◌, sym, subst, arith, ⊎_elim, inl, inr}
use Rattle.std.specs.Prelude.{◌↔◌, ◌⊎◌, Contains, filter, nat_lt}
use Rattle.std.specs.List.Sorted.{IsStrictlyIncreasing}
use Rattle.std.proofs.lemmas.Bool.{ltb-true, lt-ltb, not_from_false, cases_lt, cond_both}
use Rattle.std.proofs.lemmas.List.Elements.{Contains-append_cases, Contains-append_left, Contains-append_right}
use Rattle.std.proofs.lemmas.List.Kept.{AllPairs-filter, AllPairs-from_increasing}
use Rattle.lists.specs.Members.{IsSetOf}
use Rattle.lists.proofs.Filters.{Contains-filter}
use Rattle.lists.proofs.Membership.{Contains-head, Contains-tail, Contains-cons_cases}
use Rattle.edit_rules.specs.Numbers.{with_number}
use Rattle.edit_rules.proofs.RisingLists.{increasing_from, middle_rises}
use Rattle.lists.proofs.RisingLists.{numbers_asymmetric, same_lists}

pub with_number_rises : (x : ℕ) (xs : List ℕ) → IsStrictlyIncreasing xs → IsStrictlyIncreasing (with_number x xs)
with_number_rises x xs up =
    let all = AllPairs-from_increasing xs up in
    increasing_from (with_number x xs) (middle_rises (λ (a b : ℕ). a < b) (λ a b c low high. omega arith)
    (filter (λ y. nat_lt y x) xs) x (filter (λ y. nat_lt x y) xs)
    (AllPairs-filter (λ (a b : ℕ). a < b) (λ y. nat_lt y x) xs all)
    (AllPairs-filter (λ (a b : ℕ). a < b) (λ y. nat_lt x y) xs all)
    (λ y c. ltb-true y x ((Contains-filter (λ y. nat_lt y x) xs y).0 c).1)
    (λ y c. ltb-true x y ((Contains-filter (λ y. nat_lt x y) xs y).0 c).1))

joins : (x : ℕ) (xs : List ℕ) (y : ℕ) → x ≡ y → Contains (with_number x xs) y
joins x xs y e = Contains-append_right (filter (λ y. nat_lt y x) xs) (x ∷ filter (λ y. nat_lt x y) xs) y
    (Contains-head x (filter (λ y. nat_lt x y) xs) y e)

stays : (x : ℕ) (xs : List ℕ) (y : ℕ) → Contains xs y → Contains (with_number x xs) y
stays x xs y c =
    ⊎_elim (λ lt. Contains-append_left (filter (λ y. nat_lt y x) xs) (x ∷ filter (λ y. nat_lt x y) xs) y
    ((Contains-filter (λ y. nat_lt y x) xs y).1 (c, lt-ltb y x lt)))
    (λ ge. ⊎_elim (λ lt. Contains-append_right (filter (λ y. nat_lt y x) xs) (x ∷ filter (λ y. nat_lt x y) xs) y
    (Contains-tail x (filter (λ y. nat_lt x y) xs) y ((Contains-filter (λ y. nat_lt x y) xs y).1 (c, lt-ltb x y lt))))
    (λ le. joins x xs y (omega arith)) (cases_lt x y)) (cases_lt y x)

pub with_number_members : (x : ℕ) (xs : List ℕ) (y : ℕ) → Contains (with_number x xs) y ↔ (Contains xs y ⊎ (y ≡ x))
with_number_members x xs y = (
  λ c. ⊎_elim (λ h. inl ((Contains-filter (λ y. nat_lt y x) xs y).0 h).0)
      (λ h. ⊎_elim (λ (e : x ≡ y). inr (sym e)) (λ h'. inl ((Contains-filter (λ y. nat_lt x y) xs y).0 h').0)
      (Contains-cons_cases x (filter (λ y. nat_lt x y) xs) y h))
      (Contains-append_cases (filter (λ y. nat_lt y x) xs) (x ∷ filter (λ y. nat_lt x y) xs) y c),
  λ s. ⊎_elim (λ c. stays x xs y c) (λ (e : y ≡ x). joins x xs y (sym e)) s,
)

-- what has the members of a list and a number more, and rises, is the list with the number more
pub with_number_is : (x : ℕ) (xs new : List ℕ) → IsStrictlyIncreasing xs
    → IsSetOf (λ y. Contains xs y ⊎ (y ≡ x)) new → new ≡ with_number x xs
with_number_is x xs new up set = same_lists (λ (a b : ℕ). a < b) numbers_asymmetric new (with_number x xs)
    (AllPairs-from_increasing new set.rises)
    (AllPairs-from_increasing (with_number x xs) (with_number_rises x xs up)) (λ y. (
      λ c. (with_number_members x xs y).1 ((set.members y).0 c),
      λ c. (set.members y).1 ((with_number_members x xs y).0 c),
    ))

pub joined_number : (xs copy new : List ℕ) (x : ℕ) → copy ≡ xs → IsStrictlyIncreasing xs
    → IsSetOf (λ y. Contains copy y ⊎ (y ≡ x)) new → new ≡ with_number x xs
joined_number xs copy new x e up set =
    with_number_is x xs new up (subst (λ zs. IsSetOf (λ y. Contains zs y ⊎ (y ≡ x)) new) e set)

pub equal_members : {X : Type 0} (xs ys : List X) → xs ≡ ys → (x : X) → Contains xs x ↔ Contains ys x
equal_members xs ys e x = (λ c. subst (λ zs. Contains zs x) e c, λ c. subst (λ zs. Contains zs x) (sym e) c)

-- a number that wasn't there goes again
pub without_number : (n : ℕ) (xs ys : List ℕ) → with_number n xs ≡ with_number n ys → (Contains xs n → ⊥)
    → (x : ℕ) → Contains xs x → Contains ys x
without_number n xs ys same free x c =
    ⊎_elim (λ h. h) (λ (e : x ≡ n). absurd (free (subst (Contains xs) e c)))
    ((with_number_members n ys x).0 (subst (λ zs. Contains zs x) same ((with_number_members n xs x).1 (inl c))))

-- what a filter keeps of two lists is the same, and so is the rest: they have the same members
pub from_parts : {X : Type 0} (test : X → Bool) (xs ys : List X)
    → filter (λ x. not (test x)) xs ≡ filter (λ x. not (test x)) ys
    → ((x : X) → Contains xs x → test x ≡ true → Contains ys x) → (x : X) → Contains xs x → Contains ys x
from_parts test xs ys kept gone x c =
    cond_both (test x) x x (λ _. Contains ys x) (λ t. gone x c t)
    (λ f. ((Contains-filter (λ x. not (test x)) ys x).0
    (subst (λ zs. Contains zs x) kept ((Contains-filter (λ x. not (test x)) xs x).1 (c, not_from_false (test x) f)))).0)
