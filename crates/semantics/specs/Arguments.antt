-- The numbers of arguments.
use Rattle.std.specs.Prelude.{ℕ, ◌≤◌}
use Rattle.semantics.specs.declared.argument.TheConstants.{MAX_ARGUMENT}

-- the number of an argument, from 1 to the last one
pub record IsArgument (a : ℕ) : Type 0 where
  pub low : 1 ≤ a
  pub high : a ≤ MAX_ARGUMENT
