use Rattle.std.proofs.Common.{ℕ, ◌<◌, ◌≤◌, length, get_or}
use Rattle.conflict_learn.proofs.analysis.level_of.Given as goal

abbrev pub invariant-loop-level : goal.invariant-loop-level
invariant-loop-level l =
    (l.level ≤ length l.starts) × ((k : ℕ) → l.level ≤ k → k < length l.starts → l.reach ≤ get_or l.starts k 0)

abbrev pub decreases-loop-level : goal.decreases-loop-level
decreases-loop-level l = l.level
