-- The numbers from 1 on, and where a number stands to another.
use Rattle.std.proofs.Common.{◌≡◌, ◌⊎◌, ℕ, zero, suc, ◌+◌, ◌<◌, ◌≤◌, inl, inr, arith, ◌∙◌}
use Rattle.std.specs.Prelude.{Contains}
use Rattle.std.specs.List.{range_with_len}
use Rattle.std.specs.List.Sorted.{IsStrictlyIncreasing}
use Rattle.std.proofs.lemmas.Bool.{cases_lt}
use Rattle.std.proofs.lemmas.List.FromFn.{length-range_with_len, get_or-range_with_len}

-- the numbers from 1 to a count
pub number_there : (count a : ℕ) → 1 ≤ a → a ≤ count → Contains (range_with_len 1 count) a
number_there count zero low high = absurd (omega arith)
number_there count (suc a) low high =
    let index : 1 + a ≡ suc a = omega arith in
    (a, omega (arith, length-range_with_len 1 count), get_or-range_with_len 1 count a (suc a) (omega arith) ∙ index)

-- they rise
pub numbers_rise : (count : ℕ) → IsStrictlyIncreasing (range_with_len 1 count)
numbers_rise count = λ k within.
    let n = length-range_with_len 1 count in
    let here = get_or-range_with_len 1 count k 0 (omega arith) in
    let next = get_or-range_with_len 1 count (k + 1) 0 (omega arith) in
    omega arith

-- a number is below another, equal to it or above it
pub number_cases : (k n : ℕ) → (k < n) ⊎ ((k ≡ n) ⊎ (n < k))
number_cases k n = elim (cases_lt k n) [
  | inl below ↦ inl below
  | inr upper ↦ elim (cases_lt n k) [
    | inl behind ↦ inr (inr behind)
    | inr above ↦ inr (inl (omega arith))
  ]
]
