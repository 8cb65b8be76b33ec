-- Lists that name each item of a kind once.
use Rattle.std.specs.Prelude.{◌≡◌, ◌≢◌, ◌↔◌, List, ◌++◌, Contains, AllPairs}

-- the items of the list are exactly those of which P holds, each once
pub record Enumerates {X : Type 0} (P : X → Type 0) (items : List X) : Type 0 where
  pub members : (x : X) → Contains items x ↔ P x
  pub once : AllPairs (λ x y. x ≢ y) items

-- the list has gained at its end exactly the items of which P holds, each once
pub record GainsEach {X : Type 0} (P : X → Type 0) (old new : List X) : Type 0 where
  pub gained : List X
  pub behind : new ≡ old ++ gained
  pub each : Enumerates P gained
