-- The grounded set, and an order in which its arguments enter.
use Rattle.std.specs.Prelude.{◌≢◌, ℕ, ◌<◌, List, Contains, length, slice_index, take}
use Rattle.lists.specs.Members.{IsSetOf}
use Rattle.attack_index.specs.semantics.specs.Framework.{Af, Defends, IsGrounded}

-- each argument of the order is live, and defended by those before it
pub record EntersAfterDefenders (f : Af) (order : List ℕ) : Type 0 where
  pub live : (k : ℕ) → k < length order → Contains f.live (slice_index order k)
  pub defended : (k : ℕ) → k < length order → Defends f (take k order) (slice_index order k)

-- the set is the grounded one, as a rising list, and the order has each of its members once, after its
-- defenders
pub record GroundsInOrder (f : Af) (set order : List ℕ) : Type 0 where
  pub grounded : IsGrounded f set
  pub members : IsSetOf (Contains order) set
  pub once : (i j : ℕ) → i < j → j < length order → slice_index order i ≢ slice_index order j
  pub entered : EntersAfterDefenders f order
