-- Frameworks from lists that are written out, of which only what fits is taken.
use Rattle.std.specs.Prelude.{◌≡◌, ◌↔◌, ℕ, ◌⊎◌, List, Contains}

-- both ends of the attack are live
abbrev pub IsBetween : List ℕ → ℕ × ℕ → Type 0
IsBetween live p = Contains live p.0 × Contains live p.1

-- the list has gained the item where P holds of it, and no other
abbrev pub HasAdded : {X : Type 0} → (X → Type 0) → X → List X → List X → Type 0
HasAdded {X} P item old new = (x : X) → Contains new x ↔ (Contains old x ⊎ ((x ≡ item) × P x))
