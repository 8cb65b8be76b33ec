use Rattle.std.proofs.Common.{ℕ, ◌<◌, ◌≤◌}
use Rattle.sat_core.specs.Runs.{HasValue}
use Rattle.sat_core.proofs.decision_loop.first_unset.Given as goal

abbrev pub invariant-loop-var : goal.invariant-loop-var
invariant-loop-var l = (v : ℕ) → l.from ≤ v → v < l.var → HasValue l.search.lits v
