-- Frameworks whose rules are numbered without a gap.
use Rattle.std.specs.Prelude.{◌≡◌, ◌+◌, length, map}
use Rattle.std.specs.List.{range_with_len}
use Rattle.semantics.specs.AbaFrameworks.{Aba}

-- the rules have the numbers from 1 to m, for some m, and the next one gets m + 1
pub record IsSolid (f : Aba) : Type 0 where
  pub numbers_are : map (λ r. r.number) f.rules ≡ range_with_len 1 (length f.rules)
  pub next_is : f.next ≡ length f.rules + 1
