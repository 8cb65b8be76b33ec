-- Pairs that are found by their first numbers, through a table of the offsets at which each number's pairs begin.
use Rattle.std.specs.Prelude.{◌≡◌, ◌≢◌, ℕ, ◌+◌, ◌-◌, ◌<◌, ◌≤◌, ◌^◌, Contains, List, length, slice_index, slice_index_or}
use Rattle.attack_index.specs.PairOrder.{PairsRise}

-- the pairs, and a bound that lies above their numbers
pub record IndexedPairs : Type 0 where
  pub pairs : List (ℕ × ℕ)
  pub bound : ℕ

-- the pairs before the n-th begin with smaller numbers than k, and the others do not
pub record IsOffsetOf (k : ℕ) (pairs : List (ℕ × ℕ)) (n : ℕ) : Type 0 where
  pub within : n ≤ length pairs
  pub before : (i : ℕ) (d : ℕ × ℕ) → i < n → (slice_index_or pairs i d).0 < k
  pub after : (i : ℕ) (d : ℕ × ℕ) → n ≤ i → i < length pairs → k ≤ (slice_index_or pairs i d).0

-- the first m pairs that begin with k end just before the n-th; n is 0 where none does
pub record IsEndOf (k : ℕ) (pairs : List (ℕ × ℕ)) (m n : ℕ) : Type 0 where
  pub within : n ≤ m
  pub last : (i : ℕ) (d : ℕ × ℕ) → i + 1 ≡ n → (slice_index_or pairs i d).0 ≡ k
  pub after : (i : ℕ) (d : ℕ × ℕ) → n ≤ i → i < m → (slice_index_or pairs i d).0 ≢ k

-- the table has, for each number from the base on, the offset at which the pairs that begin with it begin
abbrev pub AreOffsets : ℕ → List (ℕ × ℕ) → List ℕ → Type 0
AreOffsets base pairs offsets = (k : ℕ) → k < length offsets → IsOffsetOf (base + k) pairs (slice_index offsets k)

-- both numbers of each pair are below a bound
abbrev pub AreBelow : ℕ → List (ℕ × ℕ) → Type 0
AreBelow bound pairs = (p : ℕ × ℕ) → Contains pairs p → (p.0 < bound) × (p.1 < bound)

-- each pair begins with one of the numbers, as many as the width, that count from the base
abbrev pub AreFrom : ℕ → ℕ → List (ℕ × ℕ) → Type 0
AreFrom base width pairs = (p : ℕ × ℕ) → Contains pairs p → (base ≤ p.0) × (p.0 < base + width)

-- the pairs that begin with the numbers from a base on, as many as the width
pub record BlockPairs : Type 0 where
  pub base : ℕ
  pub width : ℕ
  pub pairs : List (ℕ × ℕ)

-- such pairs in order
pub record IsBlock (b : BlockPairs) : Type 0 where
  pub rise : PairsRise b.pairs
  pub firsts : AreFrom b.base b.width b.pairs

-- rising pairs and the table of their offsets, which has one for each number from the base on and one more
pub record HasOffsets (base : ℕ) (pairs : List (ℕ × ℕ)) (offsets : List ℕ) : Type 0 where
  pub rise : PairsRise pairs
  pub begins : AreOffsets base pairs offsets
  pub reach : 0 < length offsets
  pub fits : base + length offsets ≤ 2 ^ 32 + 1
  pub firsts : AreFrom base (length offsets - 1) pairs

-- what pairs with such a table mean
abbrev pub block_of : ℕ → List (ℕ × ℕ) → List ℕ → BlockPairs
block_of base pairs offsets = record { base = base; width = length offsets - 1; pairs = pairs }

-- a block of all pairs, whose numbers are below its width
pub record IsWhole (b : BlockPairs) : Type 0 where
  pub base : b.base ≡ 0
  pub fits : b.width ≤ 2 ^ 32
  pub rise : PairsRise b.pairs
  pub below : AreBelow b.width b.pairs
