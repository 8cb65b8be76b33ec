-- Attacks that come or go together.
use Rattle.std.specs.Prelude.{◌≡◌, ◌⊎◌, ◌↔◌, ℕ, List, Contains}
use Rattle.semantics.specs.Framework.{Af}
use Rattle.semantics.specs.Frameworks.{IsNumberedAf}

-- g is the framework f with the attacks of the pairs
pub record HasGained (pairs : List (ℕ × ℕ)) (f g : Af) : Type 0 where
  pub form : IsNumberedAf g
  pub live : g.live ≡ f.live
  pub attacks : (p : ℕ × ℕ) → Contains g.attacks p ↔ (Contains f.attacks p ⊎ Contains pairs p)

-- g is the framework f without the attacks of the pairs
pub record HasLost (pairs : List (ℕ × ℕ)) (f g : Af) : Type 0 where
  pub form : IsNumberedAf g
  pub live : g.live ≡ f.live
  pub attacks : (p : ℕ × ℕ) → Contains g.attacks p ↔ (Contains f.attacks p × (Contains pairs p → ⊥))
