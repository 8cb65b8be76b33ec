-- Pairs of which one came or went.
use Rattle.std.specs.Prelude.{◌≡◌, ◌≢◌, ◌↔◌, ◌⊎◌, ℕ, ◌+◌, ◌<◌, ◌≤◌, Contains, List, length, slice_index, slice_index_or}
use Rattle.semantics.specs.Framework.{IsPairBefore}
use Rattle.attack_index.specs.PairOrder.{PairsRise}

-- the old pairs and a pair more, in order
pub record GainsPair (p : ℕ × ℕ) (old new : List (ℕ × ℕ)) : Type 0 where
  pub rise : PairsRise new
  pub members : (q : ℕ × ℕ) → Contains new q ↔ (Contains old q ⊎ (q ≡ p))

-- the old pairs but for a pair, in order
pub record LosesPair (p : ℕ × ℕ) (old new : List (ℕ × ℕ)) : Type 0 where
  pub rise : PairsRise new
  pub members : (q : ℕ × ℕ) → Contains new q ↔ (Contains old q × (q ≢ p))

-- the pairs before the n-th come before a pair, and the others behind it
pub record BelongsAt (p : ℕ × ℕ) (pairs : List (ℕ × ℕ)) (n : ℕ) : Type 0 where
  pub within : n ≤ length pairs
  pub before : (i : ℕ) (d : ℕ × ℕ) → i < n → IsPairBefore (slice_index_or pairs i d) p
  pub after : (i : ℕ) (d : ℕ × ℕ) → n ≤ i → i < length pairs → IsPairBefore p (slice_index_or pairs i d)

-- numbers of which each from an index on became one more
pub record AreRaisedFrom (from : ℕ) (old new : List ℕ) : Type 0 where
  pub long : length new ≡ length old
  pub before : (k : ℕ) → k < from → slice_index new k ≡ slice_index old k
  pub after : (k : ℕ) → from ≤ k → k < length old → slice_index new k ≡ slice_index old k + 1

-- numbers of which each from an index on became one less
pub record AreLoweredFrom (from : ℕ) (old new : List ℕ) : Type 0 where
  pub long : length new ≡ length old
  pub before : (k : ℕ) → k < from → slice_index new k ≡ slice_index old k
  pub after : (k : ℕ) → from ≤ k → k < length old → slice_index new k + 1 ≡ slice_index old k
