-- The numbers from 1 on, and what is listed for each of them.
use Rattle.std.proofs.Common.{◌≡◌, ℕ, zero, suc, ◌+◌, ◌-◌, ◌<◌, ◌≤◌, List, [], ◌∷◌, ◌++◌, Contains, arith, refl, ap}
use Rattle.std.proofs.Common.{sym, subst, ◌∙◌, ⊎_elim}
use Rattle.std.specs.List.{flat_map, range_with_len}
use Rattle.std.specs.List.Sorted.{IsStrictlyIncreasing}
use Rattle.std.proofs.lemmas.List.{append-nil}
use Rattle.std.proofs.lemmas.List.Concat.{flat_map-append}
use Rattle.std.proofs.lemmas.List.Elements.{Contains-append_cases, Contains-append_left, Contains-append_right}
use Rattle.std.proofs.lemmas.List.FromFn.{get_or-range_with_len, length-range_with_len}
use Rattle.lists.proofs.Membership.{Contains-cons_cases, Contains-head, Contains-nil}

pub numbers_rise : (n : ℕ) → IsStrictlyIncreasing (range_with_len 1 n)
numbers_rise n = λ k within.
    let long = length-range_with_len 1 n in
    let here = get_or-range_with_len 1 n k 0 (omega arith) in
    let next = get_or-range_with_len 1 n (k + 1) 0 (omega arith) in
    omega arith

pub number_in : (n a : ℕ) → Contains (range_with_len 1 n) a → (1 ≤ a) × (a ≤ n)
number_in n a c =
    let lt : c.0 < n = omega (arith, c.1, length-range_with_len 1 n) in
    let here = get_or-range_with_len 1 n c.0 a lt in
    let e = c.2 in
    (omega arith, omega arith)

pub number_from : (n a : ℕ) → 1 ≤ a → a ≤ n → Contains (range_with_len 1 n) a
number_from n a low high =
    let long = length-range_with_len 1 n in
    let here = get_or-range_with_len 1 n (a - 1) a (omega arith) in
    (a - 1, omega arith, omega arith)

last_number : (a n j : ℕ) → a + n ≡ j → range_with_len a (suc n) ≡ range_with_len a n ++ j ∷ []
last_number a zero j e = ap (λ x. x ∷ []) (let same : a ≡ j = omega arith in same)
last_number a (suc n) j e = ap (λ l. a ∷ l) (last_number (a + 1) n j (omega arith))

-- what is listed for the numbers up to one more
pub one_more : {A : Type 0} (f : ℕ → List A) (a : ℕ) → 1 ≤ a
    → flat_map f (range_with_len 1 (a + 1 - 1)) ≡ flat_map f (range_with_len 1 (a - 1)) ++ f a
one_more f a low =
    let on : a + 1 - 1 ≡ suc (a - 1) = omega arith in
    ap (λ n. flat_map f (range_with_len 1 n)) on
    ∙ ap (flat_map f) (last_number 1 (a - 1) a (omega arith))
    ∙ flat_map-append f (range_with_len 1 (a - 1)) (a ∷ [])
    ∙ ap (λ l. flat_map f (range_with_len 1 (a - 1)) ++ l) (append-nil (f a))

-- what is listed is listed for some item
pub listed_for : {A B : Type 0} (f : A → List B) (xs : List A) (y : B) → Contains (flat_map f xs) y
    → (x : A) × Contains xs x × Contains (f x) y
listed_for f [] y c = absurd (Contains-nil y c)
listed_for f (x ∷ xs) y c =
    ⊎_elim (λ h. (x, Contains-head x xs x refl, h))
    (λ h. let found = listed_for f xs y h in (found.0, Contains-append_right (x ∷ []) xs found.0 found.1, found.2))
    (Contains-append_cases (f x) (flat_map f xs) y c)

pub for_listed : {A B : Type 0} (f : A → List B) (xs : List A) (x : A) (y : B) → Contains xs x → Contains (f x) y
    → Contains (flat_map f xs) y
for_listed f [] x y c d = absurd (Contains-nil x c)
for_listed f (z ∷ xs) x y c d =
    ⊎_elim (λ (e : z ≡ x). Contains-append_left (f z) (flat_map f xs) y (subst (λ u. Contains (f u) y) (sym e) d))
    (λ h. Contains-append_right (f z) (flat_map f xs) y (for_listed f xs x y h d))
    (Contains-cons_cases z xs x c)
