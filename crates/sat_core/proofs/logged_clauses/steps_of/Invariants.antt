use Rattle.std.proofs.Common.{◌≡◌, map, take}
use Rattle.sleeping_clauses.specs.Steps.{step_of}
use Rattle.sat_core.proofs.logged_clauses.steps_of.Given as goal

abbrev pub invariant-loop-id : goal.invariant-loop-id
invariant-loop-id l = l.steps ≡ map (step_of l.active) (take l.id-index l.ids)
