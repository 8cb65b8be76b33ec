-- Rising numbers without a gap.
use Rattle.std.proofs.Common.{◌≡◌, ◌+◌, ◌-◌, ◌<◌, ◌≤◌, ℕ, zero, suc, List, length, get_or, arith, ap, sym, ⊎_elim}
use Rattle.std.specs.List.{range_with_len}
use Rattle.std.specs.List.Sorted.{IsStrictlyIncreasing}
use Rattle.std.proofs.lemmas.List.{ext_get_or}
use Rattle.std.proofs.lemmas.List.FromFn.{length-range_with_len, get_or-range_with_len}
use Rattle.std.proofs.lemmas.List.Elements.{Contains-get_or}
use Rattle.std.proofs.lemmas.List.Kept.{AllPairs-from_increasing}
use Rattle.std.proofs.lemmas.Bool.{cases_eq}
use Rattle.attack_index.specs.semantics.specs.Framework.{Af}
use Rattle.attack_index.specs.semantics.specs.Frameworks.{IsNumberedAf}
use Rattle.dung_notions.specs.Solid.{IsSolid}

-- rising numbers rise by at least one from place to place
climbs : (xs : List ℕ) → IsStrictlyIncreasing xs → (i k j : ℕ) → i + k ≡ j → j < length xs
    → get_or xs i 0 + k ≤ get_or xs j 0
climbs xs up i zero j e lt = let same : i ≡ j = omega arith in omega (arith, ap (λ n. get_or xs n 0) same)
climbs xs up i (suc k) j e lt =
    let before : get_or xs i 0 + k ≤ get_or xs (i + k) 0 = climbs xs up i k (i + k) (omega arith) (omega arith) in
    omega (arith, AllPairs-from_increasing xs up (i + k) j 0 (omega arith) lt)

-- n rising numbers from 1 up to n are all of these
pub numbered_from : (xs : List ℕ) → IsStrictlyIncreasing xs → (m : ℕ) → length xs ≡ m + 1 → get_or xs m 0 ≡ length xs
    → 0 < get_or xs 0 0
    → xs ≡ range_with_len 1 (length xs)
numbered_from xs up m long top low =
    ext_get_or 0 xs (range_with_len 1 (length xs)) (sym (length-range_with_len 1 (length xs)))
    (λ i lt. omega (
      arith,
      get_or-range_with_len 1 (length xs) i 0 lt,
      climbs xs up 0 i i (omega arith) lt,
      climbs xs up i (m - i) m (omega arith) (omega arith),
    ))

-- the numbers from 1 up stand at one place less
pub numbered_at : (xs : List ℕ) → xs ≡ range_with_len 1 (length xs) → (i : ℕ) → i < length xs → get_or xs i 0 ≡ i + 1
numbered_at xs e i lt = omega (arith, ap (λ ys. get_or ys i 0) e, get_or-range_with_len 1 (length xs) i 0 lt)

-- arguments without a gap are no more than there may be
pub solid : (f : Af) → IsNumberedAf f → f.live ≡ range_with_len 1 (length f.live) → IsSolid f
solid f h e = record {
  live_is = e;
  small = ⊎_elim (λ (none : length f.live ≡ 0). omega (arith, none))
      (λ some.
      let last = length f.live - 1 in
      let lt : last < length f.live = omega (arith, some) in
      omega (arith, numbered_at f.live e last lt, (h.live _ (Contains-get_or f.live last 0 lt)).high))
      (cases_eq (length f.live) 0);
}
