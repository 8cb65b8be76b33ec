-- A number put into a rising list at the index that a binary search told.
use Rattle.std.proofs.Common.{◌≡◌, ℕ, ◌<◌, ◌+◌, ◌⊎◌, inl, inr, ⊎_elim, List, [], ◌∷◌, ◌++◌, length, take, drop, length-drop, arith, sym, Err}
use Rattle.std.specs.Prelude.{Contains, insert}
use Rattle.std.specs.List.Sorted.{IsStrictlyIncreasing}
use Rattle.std.proofs.lemmas.List.{get_or_default, get_or-take, get_or-drop, length-take, take-append-drop}
use Rattle.std.proofs.lemmas.List.Elements.{Contains-append_left, Contains-append_right, Contains-append_cases}
use Rattle.lists.specs.Members.{IsSetOf}
use Rattle.lists.proofs.Membership.{Contains-nil, Contains-head, Contains-tail, Contains-cons_cases}
use Rattle.set_lists.proofs.Rising.{IsPlaceOf, rises_left, rises_right, below_across, rises_append}

-- what lies before the index is below the number
low_part : (xs : List ℕ) (x i : ℕ) → IsPlaceOf xs x (Err i) → (y : ℕ) → Contains (take i xs) y → y < x
low_part xs x i index y c =
    let k = c.0 in
    let in_part = c.1 in
    let size = length-take i xs in
    let short : k < i = omega arith in
    let same = get_or-take i xs k y short in
    let e = c.2 in
    let at_zero = get_or_default xs k y 0 (omega arith) in
    let h = index.1 k short in
    omega (arith, same, e, at_zero, h)

-- what lies from the index on is above it
high_part : (xs : List ℕ) (x i : ℕ) → IsPlaceOf xs x (Err i) → (y : ℕ) → Contains (drop i xs) y → x < y
high_part xs x i index y c =
    let k = c.0 in
    let in_part = c.1 in
    let inside : i + k < length xs = let size = length-drop i xs in omega arith in
    let same = get_or-drop i xs k y in
    let e = c.2 in
    let at_zero = get_or_default xs (i + k) y 0 inside in
    let h = index.2 (i + k) (omega arith) inside in
    omega (arith, same, e, at_zero, h)

pub inserted : (xs : List ℕ) (x i : ℕ) (new : List ℕ) → IsStrictlyIncreasing xs → IsPlaceOf xs x (Err i) → new
    ≡ insert xs i x → IsSetOf (λ y. Contains xs y ⊎ (y ≡ x)) new
inserted xs x i new up index e =
    let whole : take i xs ++ drop i xs ≡ xs = take-append-drop i xs in
    let up_parts : IsStrictlyIncreasing (take i xs ++ drop i xs) = rw whole up in
    let one : IsStrictlyIncreasing (x ∷ []) = λ k lt. absurd (omega arith) in
    let up_high : IsStrictlyIncreasing (x ∷ drop i xs) =
    rises_append (x ∷ []) (drop i xs) one (rises_right (take i xs) (drop i xs) up_parts)
    (λ y z cy cz. ⊎_elim (λ same. let h = high_part xs x i index z cz in omega arith)
    (λ none. absurd (Contains-nil y none)) (Contains-cons_cases x [] y cy)) in
    rw e (record {
      rises = rises_append (take i xs) (x ∷ drop i xs) (rises_left (take i xs) (drop i xs) up_parts) up_high
          (λ y z cy cz. ⊎_elim (λ same. let h = low_part xs x i index y cy in omega arith)
          (λ later. below_across (take i xs) (drop i xs) up_parts y z cy later)
          (Contains-cons_cases x (drop i xs) z cz));
      members = λ y. (
        λ c. ⊎_elim (λ k. inl (rw (← whole) (Contains-append_left (take i xs) (drop i xs) y k)))
            (λ k. ⊎_elim (λ same. inr (sym same))
            (λ t. inl (rw (← whole) (Contains-append_right (take i xs) (drop i xs) y t)))
            (Contains-cons_cases x (drop i xs) y k))
            (Contains-append_cases (take i xs) (x ∷ drop i xs) y c),
        λ h. ⊎_elim
            (λ c. ⊎_elim (λ k. Contains-append_left (take i xs) (x ∷ drop i xs) y k)
            (λ k. Contains-append_right (take i xs) (x ∷ drop i xs) y (Contains-tail x (drop i xs) y k))
            (Contains-append_cases (take i xs) (drop i xs) y (rw whole c)))
            (λ same. Contains-append_right (take i xs) (x ∷ drop i xs) y (Contains-head x (drop i xs) y (sym same))) h,
      );
    })
