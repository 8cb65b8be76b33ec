-- Rising lists, and what a binary search in one finds.
use Rattle.std.proofs.Common.{◌≡◌, ℕ, ◌<◌, ◌≤◌, ◌+◌, ◌-◌, List, ◌++◌, length, length-append, get_or, arith, ap, Ok, Err, Result, ◌∙◌, refl, true, ⊎_elim}
use Rattle.std.specs.Prelude.{Contains, ◌↔◌, MatchResult, is_ok}
use Rattle.std.specs.List.Sorted.{IsStrictlyIncreasing}
use Rattle.std.proofs.lemmas.Bool.{false≢true, cases_lt, cases_eq}
use Rattle.std.proofs.lemmas.List.{get_or_default, get_or_append_left, get_or-append_right, get_or-append-add}
use Rattle.std.proofs.lemmas.List.Elements.{Contains-get_or}
use Rattle.std.proofs.lemmas.List.Kept.{AllPairs-from_increasing}

-- a binary search's answer: the index, or where the number would stand
abbrev pub IsPlaceOf : List ℕ → ℕ → Result ℕ ℕ → Type 0
IsPlaceOf xs x r =
    MatchResult r (λ i. (i < length xs) × (get_or xs i 0 ≡ x))
    (λ i. (i ≤ length xs) × ((k : ℕ) → k < i → get_or xs k 0 < x)
    × ((k : ℕ) → i ≤ k → k < length xs → x < get_or xs k 0))

-- the search succeeds just where the number is a member
pub found : (xs : List ℕ) (x : ℕ) (r : Result ℕ ℕ) → IsPlaceOf xs x r → (is_ok r ≡ true) ↔ Contains xs x
found xs x (Ok i) h = (λ _. (i, h.0, get_or_default xs i x 0 h.0 ∙ h.1), λ _. refl)
found xs x (Err i) h = (
  λ e. absurd (false≢true e),
  λ w.
      let at : get_or xs w.0 0 ≡ x = get_or_default xs w.0 0 x w.1 ∙ w.2 in
      ⊎_elim (λ lt. absurd (omega (arith, h.1 w.0 lt))) (λ ge. absurd (omega (arith, h.2 w.0 ge w.1))) (cases_lt w.0 i),
)

-- each number of the one is below each of the other
abbrev pub AllBelow : List ℕ → List ℕ → Type 0
AllBelow xs ys = (x y : ℕ) → Contains xs x → Contains ys y → x < y

-- the first part of a rising list rises
pub rises_left : (xs ys : List ℕ) → IsStrictlyIncreasing (xs ++ ys) → IsStrictlyIncreasing xs
rises_left xs ys up k lt =
    let a = get_or_append_left xs ys 0 k (omega arith) in
    let b = get_or_append_left xs ys 0 (k + 1) lt in
    let h = up k (omega (arith, length-append xs ys)) in
    omega (arith, a, b, h)

-- so does its last part
pub rises_right : (xs ys : List ℕ) → IsStrictlyIncreasing (xs ++ ys) → IsStrictlyIncreasing ys
rises_right xs ys up k lt =
    let a = get_or-append_right xs ys (length xs) (length xs + k) 0 refl (omega arith) in
    let b = get_or-append_right xs ys (length xs) (length xs + k + 1) 0 refl (omega arith) in
    let at_k = ap (λ n. get_or ys n 0) (let e : length xs + k - length xs ≡ k = omega arith in e) in
    let at_next = ap (λ n. get_or ys n 0) (let e : length xs + k + 1 - length xs ≡ k + 1 = omega arith in e) in
    let h = up (length xs + k) (omega (arith, length-append xs ys)) in
    omega (arith, a, b, at_k, at_next, h)

-- and each number of the first part is below each of the last
pub below_across : (xs ys : List ℕ) → IsStrictlyIncreasing (xs ++ ys) → AllBelow xs ys
below_across xs ys up x y cx cy =
    let a = get_or_append_left xs ys x cx.0 cx.1 in
    let b = get_or-append-add xs ys cy.0 x in
    let d = get_or_default ys cy.0 x y cy.1 in
    let ex = cx.2 in
    let ey = cy.2 in
    let in_x = cx.1 in
    let in_y = cy.1 in
    let h = AllPairs-from_increasing (xs ++ ys) up cx.0 (length xs + cy.0) x (omega arith)
    (omega (arith, length-append xs ys)) in
    omega (arith, a, b, d, ex, ey, h)

-- and these three facts say that the whole rises
pub rises_append : (xs ys : List ℕ) → IsStrictlyIncreasing xs → IsStrictlyIncreasing ys → AllBelow xs ys
    → IsStrictlyIncreasing (xs ++ ys)
rises_append xs ys up_x up_y across k lt =
    let total = length-append xs ys in
    ⊎_elim
    (λ inside.
    let a = get_or_append_left xs ys 0 k (omega arith) in
    let b = get_or_append_left xs ys 0 (k + 1) inside in
    let h = up_x k inside in
    omega (arith, a, b, h))
    (λ beyond. ⊎_elim
    (λ seam.
    let a = get_or_append_left xs ys 0 k (omega arith) in
    let b = get_or-append_right xs ys (length xs) (k + 1) 0 refl beyond in
    let first = ap (λ n. get_or ys n 0) (let e : k + 1 - length xs ≡ 0 = omega arith in e) in
    let h = across (get_or xs k 0) (get_or ys 0 0) (Contains-get_or xs k 0 (omega arith))
    (Contains-get_or ys 0 0 (omega (arith, total))) in
    omega (arith, a, b, first, h))
    (λ later.
    let a = get_or-append_right xs ys (length xs) k 0 refl (omega arith) in
    let b = get_or-append_right xs ys (length xs) (k + 1) 0 refl beyond in
    let next = ap (λ n. get_or ys n 0) (let e : k + 1 - length xs ≡ k - length xs + 1 = omega arith in e) in
    let h = up_y (k - length xs) (omega (arith, total)) in
    omega (arith, a, b, next, h))
    (cases_eq (k + 1) (length xs)))
    (cases_lt (k + 1) (length xs))
