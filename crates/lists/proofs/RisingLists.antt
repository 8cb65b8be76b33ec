-- Lists whose items rise in an order, and when two of them are the same.
use Rattle.std.proofs.Common.{◌≡◌, ◌<◌, ◌≤◌, ℕ, zero, suc, List, [], ◌∷◌, ◌++◌, length, get_or, map, arith, refl, ap, sym, subst, ◌∙◌, ⊎_elim}
use Rattle.std.specs.Prelude.{◌↔◌, Contains}
use Rattle.std.specs.List.{AllPairs}
use Rattle.std.specs.List.Sorted.{IsStrictlyIncreasing}
use Rattle.std.proofs.lemmas.Bool.{cases_eq, cases_lt}
use Rattle.std.proofs.lemmas.List.{get_or_default, get_or-map, length-map}
use Rattle.std.proofs.lemmas.List.Elements.{Contains-append_cases, Contains-get_or}
use Rattle.std.proofs.lemmas.List.Kept.{AllPairs-from_increasing}
use Rattle.lists.proofs.Membership.{Contains-nil, Contains-head, Contains-tail, Contains-cons_cases}

-- an order in which no two items come before each other
abbrev pub IsAsymmetric : {X : Type 0} → (X → X → Type 0) → Type 0
IsAsymmetric {X} before = (x y : X) → before x y → before y x → ⊥

pub numbers_asymmetric : IsAsymmetric (λ (x y : ℕ). x < y)
numbers_asymmetric x y a b = omega arith

-- what stands after the head rises
pub tail_rises : {X : Type 0} (before : X → X → Type 0) (x : X) (xs : List X) → AllPairs before (x ∷ xs)
    → AllPairs before xs
tail_rises before x xs up i j d lt within = up (suc i) (suc j) d (omega arith) (omega arith)

-- the head comes before what stands after it
pub head_before : {X : Type 0} (before : X → X → Type 0) (x : X) (xs : List X) (y : X) → AllPairs before (x ∷ xs)
    → Contains xs y → before x y
head_before before x xs y up c =
    subst (λ z. before x z) c.2 (let within = c.1 in up zero (suc c.0) y (omega arith) (omega arith))

-- the heads of two rising lists with the same members are the same
same_head : {X : Type 0} (before : X → X → Type 0) → IsAsymmetric before → (x y : X) (xs ys : List X)
    → AllPairs before (x ∷ xs) → AllPairs before (y ∷ ys)
    → ((z : X) → Contains (x ∷ xs) z ↔ Contains (y ∷ ys) z) → x ≡ y
same_head before never x y xs ys up_x up_y same =
    ⊎_elim (λ e. sym e) (λ (c : Contains ys x).
    ⊎_elim (λ e. e)
    (λ (d : Contains xs y). absurd (never x y (head_before before x xs y up_x d) (head_before before y ys x up_y c)))
    (Contains-cons_cases x xs y ((same y).1 (Contains-head y ys y refl))))
    (Contains-cons_cases y ys x ((same x).0 (Contains-head x xs x refl)))

-- what stands after the heads has the same members
within_tail : {X : Type 0} (before : X → X → Type 0) → IsAsymmetric before → (x y : X) (xs ys : List X)
    → AllPairs before (x ∷ xs) → x ≡ y → ((z : X) → Contains (x ∷ xs) z → Contains (y ∷ ys) z)
    → (z : X) → Contains xs z → Contains ys z
within_tail before never x y xs ys up e there z c =
    ⊎_elim (λ (f : y ≡ z). let again : before x x = subst (λ u. before x u) (sym (e ∙ f))
    (head_before before x xs z up c) in absurd (never x x again again)) (λ d. d)
    (Contains-cons_cases y ys z (there z (Contains-tail x xs z c)))

-- two rising lists with the same members are the same
pub same_lists : {X : Type 0} (before : X → X → Type 0) → IsAsymmetric before → (xs ys : List X) → AllPairs before xs
    → AllPairs before ys → ((z : X) → Contains xs z ↔ Contains ys z) → xs ≡ ys
same_lists before never [] [] up_x up_y same = refl
same_lists before never [] (y ∷ ys) up_x up_y same = absurd (Contains-nil y ((same y).1 (Contains-head y ys y refl)))
same_lists before never (x ∷ xs) [] up_x up_y same = absurd (Contains-nil x ((same x).0 (Contains-head x xs x refl)))
same_lists before never (x ∷ xs) (y ∷ ys) up_x up_y same =
    let e : x ≡ y = same_head before never x y xs ys up_x up_y same in
    let rest : xs ≡ ys = same_lists before never xs ys (tail_rises before x xs up_x)
    (tail_rises before y ys up_y) (λ z. (
      within_tail before never x y xs ys up_x e (λ u. (same u).0) z,
      within_tail before never y x ys xs up_y (sym e) (λ u. (same u).1) z,
    )) in
    ap (λ z. z ∷ xs) e ∙ ap (λ zs. y ∷ zs) rest

-- the same of numbers
pub same_rising : (xs ys : List ℕ) → IsStrictlyIncreasing xs → IsStrictlyIncreasing ys
    → ((a : ℕ) → Contains xs a ↔ Contains ys a) → xs ≡ ys
same_rising xs ys up_x up_y same =
    same_lists (λ (x y : ℕ). x < y) numbers_asymmetric xs ys (AllPairs-from_increasing xs up_x)
    (AllPairs-from_increasing ys up_y) same

-- an item before all the others may stand in front of them
pub cons_rises : {X : Type 0} (before : X → X → Type 0) (x : X) (xs : List X) → ((y : X) → Contains xs y → before x y)
    → AllPairs before xs → AllPairs before (x ∷ xs)
cons_rises before x xs first up i zero d lt within = absurd (omega arith)
cons_rises before x xs first up zero (suc j) d lt within = first (get_or xs j d) (Contains-get_or xs j d (omega arith))
cons_rises before x xs first up (suc i) (suc j) d lt within = up i j d (omega arith) (omega arith)

-- two rising lists, of which all of the first comes before all of the second, make one
pub append_rises : {X : Type 0} (before : X → X → Type 0) (xs ys : List X) → AllPairs before xs → AllPairs before ys
    → ((x y : X) → Contains xs x → Contains ys y → before x y) → AllPairs before (xs ++ ys)
append_rises before [] ys up_x up_y across = up_y
append_rises before (x ∷ xs) ys up_x up_y across =
    cons_rises before x (xs ++ ys)
    (λ z c. ⊎_elim (λ h. head_before before x xs z up_x h) (λ h. across x z (Contains-head x xs x refl) h)
    (Contains-append_cases xs ys z c))
    (append_rises before xs ys (tail_rises before x xs up_x) up_y (λ u v h. across u v (Contains-tail x xs u h)))

-- two items with one key are the same where the keys rise
pub same_item : {X : Type 0} (key : X → ℕ) (xs : List X) (x y : X) → IsStrictlyIncreasing (map key xs)
    → Contains xs x → Contains xs y → key x ≡ key y → x ≡ y
same_item key xs x y up cx cy e =
    let key_at : (z : _) (c : Contains xs z) → get_or (map key xs) c.0 0 ≡ key z
    = λ z c. get_or-map key xs c.0 z 0 c.1 ∙ ap key c.2 in
    let long = length-map xs key in
    let at_x = key_at x cx in
    let at_y = key_at y cy in
    let in_x = cx.1 in
    let in_y = cy.1 in
    ⊎_elim
    (λ less. absurd (omega (arith, AllPairs-from_increasing (map key xs) up cx.0 cy.0 0 less (omega arith))))
    (λ not_less. ⊎_elim
    (λ more. absurd (omega (arith, AllPairs-from_increasing (map key xs) up cy.0 cx.0 0 more (omega arith))))
    (λ not_more.
    let same : cx.0 ≡ cy.0 = omega arith in
    sym cx.2 ∙ ap (λ k. get_or xs k x) same ∙ get_or_default xs cy.0 x y cy.1 ∙ cy.2)
    (cases_lt cy.0 cx.0))
    (cases_lt cx.0 cy.0)

-- items with rising keys rise by them
pub keys_rise : {X : Type 0} (key : X → ℕ) (xs : List X) → IsStrictlyIncreasing (map key xs)
    → AllPairs (λ x y. key x < key y) xs
keys_rise key xs up i j d lt within =
    let long = length-map xs key in
    let less = AllPairs-from_increasing (map key xs) up i j 0 lt (omega arith) in
    omega (arith, less, get_or-map key xs i d 0 (omega arith), get_or-map key xs j d 0 within)

-- a later number of a rising list is not below an earlier one
pub rises_along : (xs : List ℕ) → IsStrictlyIncreasing xs → (i j : ℕ) → i ≤ j → j < length xs
    → get_or xs i 0 ≤ get_or xs j 0
rises_along xs up i j le lt =
    ⊎_elim (λ e. omega (arith, ap (λ k. get_or xs k 0) e))
    (λ ne. let h = AllPairs-from_increasing xs up i j 0 (omega arith) lt in omega arith)
    (cases_eq i j)
