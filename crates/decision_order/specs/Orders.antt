-- The arrays of an order of decisions: all that safety needs of them.
use Rattle.std.specs.Prelude.{ℕ, ◌<◌, ◌≤◌, List, Bool, length}
use Rattle.std.specs.List.{All}

-- each variable of a heap is below a number
pub record AreVars (vars : ℕ) (heap : List ℕ) : Type 0 where
  pub below : All (λ v. v < vars) heap

-- each array has an entry for each variable, and the heap holds variables
pub record IsOrder (heap indices activities : List ℕ) (declared phases initial_phases : List Bool) : Type 0 where
  pub heap_vars : AreVars (length activities) heap
  pub indices_long : length activities ≤ length indices
  pub named_long : length activities ≤ length declared
  pub phases_long : length activities ≤ length phases
  pub firsts_long : length activities ≤ length initial_phases
