-- The attacks round a set, and what a set defends of itself.
use Rattle.std.specs.Prelude.{◌≡◌, ◌↔◌, ◌⊎◌, ℕ, List, Contains}
use Rattle.semantics.specs.Framework.{Af}
use Rattle.semantics.specs.Collectives.{Collective, IsDefended}

-- an attack that a member of the set makes or suffers
abbrev pub HasEndIn : Af → List ℕ → ℕ × ℕ → Type 0
HasEndIn f s p = Contains f.attacks p × (Contains s p.0 ⊎ Contains s p.1)

-- the list has gained the attacks that the argument makes or suffers, and nothing else
abbrev pub GainsAttacksOf : Af → ℕ → List (ℕ × ℕ) → List (ℕ × ℕ) → Type 0
GainsAttacksOf f a old new =
    (p : ℕ × ℕ) → Contains new p ↔ (Contains old p ⊎ (Contains f.attacks p × ((p.0 ≡ a) ⊎ (p.1 ≡ a))))

-- the same live arguments, and of the attacks those that a member of the set makes or suffers
pub record IsRound (f : Af) (s : List ℕ) (round : Af) : Type 0 where
  pub live : round.live ≡ f.live
  pub attacks : (p : ℕ × ℕ) → Contains round.attacks p ↔ HasEndIn f s p

-- a member that the set does not defend
abbrev pub IsUndefendedMember : Collective → List ℕ → ℕ → Type 0
IsUndefendedMember d s a = Contains s a × (IsDefended d s a → ⊥)
