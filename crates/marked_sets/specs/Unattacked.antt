-- Arguments that nothing attacks, and those that a set reaches by attacks.
use Rattle.std.specs.Prelude.{◌↔◌, ◌⊎◌, ◌≡◌, ℕ, List, Contains}
use Rattle.attack_index.specs.semantics.specs.Framework.{Af, Attacks, Defends, IsInRange}

-- no argument attacks it
abbrev pub IsUnattacked : Af → ℕ → Type 0
IsUnattacked f a = (b : ℕ) → Attacks f b a → ⊥

-- exactly the live arguments that nothing attacks
pub record AreUnattacked (f : Af) (found : List ℕ) : Type 0 where
  pub each : (a : ℕ) → Contains found a ↔ (Contains f.live a × IsUnattacked f a)

-- the argument has been added if nothing attacks it
pub record GainsUnattacked (f : Af) (argument : ℕ) (old new : List ℕ) : Type 0 where
  pub each : (a : ℕ) → Contains new a ↔ (Contains old a ⊎ ((a ≡ argument) × IsUnattacked f a))

-- the argument is in the set's range, or something there attacks it
abbrev pub IsReached : Af → List ℕ → ℕ → Type 0
IsReached f s a = IsInRange f s a ⊎ ((b : ℕ) × IsInRange f s b × Attacks f b a)

-- of what the set reaches, it holds what it defends
pub record HoldsReached (f : Af) (s : List ℕ) : Type 0 where
  pub held : (a : ℕ) → IsReached f s a → Defends f s a → Contains s a
