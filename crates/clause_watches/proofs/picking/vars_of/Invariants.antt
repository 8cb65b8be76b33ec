use Rattle.std.proofs.Common.{take}
use Rattle.clause_watches.specs.Picks.{HasVars}
use Rattle.clause_watches.proofs.picking.vars_of.Given as goal

abbrev pub invariant-loop-lit : goal.invariant-loop-lit
invariant-loop-lit l = HasVars (take l.lit-index l.lits) l.vars
