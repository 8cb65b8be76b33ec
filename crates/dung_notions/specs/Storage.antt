-- A framework's attacks, kept from either end.
use Rattle.std.specs.Prelude.{◌↔◌, ℕ, ◌<◌, Contains, List}
use Rattle.attack_index.specs.semantics.specs.Framework.{Af}
use Rattle.attack_index.specs.semantics.specs.Frameworks.{IsNumberedAf}
use Rattle.attack_index.specs.PairOrder.{PairsRise, reversed}
use Rattle.attack_index.specs.Offsets.{IndexedPairs}

-- the framework of a list of live arguments and a list of attacks
abbrev pub framework_of : List ℕ → List (ℕ × ℕ) → Af
framework_of live attacks = record { live = live; attacks = attacks }

-- pairs, and the pairs the other way round, both in order
pub record AreTwoWays (outgoing incoming : List (ℕ × ℕ)) : Type 0 where
  pub leaving : PairsRise outgoing
  pub reaching : PairsRise incoming
  pub same : (p : ℕ × ℕ) → Contains incoming (reversed p) ↔ Contains outgoing p

-- a framework's lists in their form, and its attacks the other way round; both indices have bounds above each live
-- argument
pub record IsStored (f : Af) (bound : ℕ) (incoming : IndexedPairs) : Type 0 where
  pub form : IsNumberedAf f
  pub leave : (a : ℕ) → Contains f.live a → a < bound
  pub rise : PairsRise incoming.pairs
  pub same : (p : ℕ × ℕ) → Contains incoming.pairs (reversed p) ↔ Contains f.attacks p
  pub reach : (a : ℕ) → Contains f.live a → a < incoming.bound
