use Rattle.std.proofs.Common.{◌≤◌, length}
use Rattle.std.specs.Prelude.{None}
use Rattle.enumerate_block.specs.Modes.{IsListing, MadeDiffers}
use Rattle.enumerate_block.proofs.ModeLemmas.{unlisted}
use Rattle.goal_lists.specs.Runs.{Ran}
use Rattle.enumerate_block.proofs.with_mode.list_on.Given as goal

abbrev pub invariant-loop-listing : goal.invariant-loop-listing
invariant-loop-listing g l = record {
  listing : IsListing (g.O.Oracle.framework l.fn.oracle) (g.O.Oracle.log l.oracle) l.mode l.range l.listing;
  room : length l.listing.sets.items ≤ l.limit;
  ran : Ran g.O.Oracle (λ f. MadeDiffers f l.mode) 0 l.fn.oracle l.oracle l.fn.budget l.budget None;
}

abbrev pub decreases-loop-listing : goal.decreases-loop-listing
decreases-loop-listing g l = unlisted (g.O.Oracle.framework l.fn.oracle) l.listing.sets.items
