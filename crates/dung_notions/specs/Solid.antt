-- Frameworks whose arguments are numbered without a gap.
use Rattle.std.specs.Prelude.{◌≡◌, ◌≤◌, length}
use Rattle.std.specs.List.{range_with_len}
use Rattle.attack_index.specs.semantics.specs.declared.argument.TheConstants.{MAX_ARGUMENT}
use Rattle.attack_index.specs.semantics.specs.Framework.{Af}

-- the live arguments are the numbers from 1 to n, for some n of at most a million
pub record IsSolid (f : Af) : Type 0 where
  pub live_is : f.live ≡ range_with_len 1 (length f.live)
  pub small : length f.live ≤ MAX_ARGUMENT
