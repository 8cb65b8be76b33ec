use Rattle.std.proofs.Common.{take}
use Rattle.clause_watches.specs.Picks.{IsPick}
use Rattle.clause_watches.proofs.picking.pick_one.Given as goal

abbrev pub invariant-loop-lit : goal.invariant-loop-lit
invariant-loop-lit l = IsPick l.trail.lits (take l.lit-index l.clause) l.other l.best
