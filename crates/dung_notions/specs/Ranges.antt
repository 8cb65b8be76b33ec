-- What is added to a list on the way to a range.
use Rattle.std.specs.Prelude.{◌↔◌, ◌⊎◌, ℕ, List, Contains}
use Rattle.attack_index.specs.semantics.specs.Framework.{Af, Attacks}

-- the list has gained what the argument attacks, and nothing else
abbrev pub GainsTargets : Af → ℕ → List ℕ → List ℕ → Type 0
GainsTargets f b old new = (a : ℕ) → Contains new a ↔ (Contains old a ⊎ Attacks f b a)
