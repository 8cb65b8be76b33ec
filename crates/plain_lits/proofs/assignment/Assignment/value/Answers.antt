use Rattle.std.proofs.Common.{◌<◌, length, arith}
use Rattle.plain_lits.proofs.TrailLemmas.{value_read}
use Rattle.plain_lits.proofs.assignment.Assignment.value.Goals as goal

pub returns-clause-value : goal.returns-clause-value
returns-clause-value c =
    let v = c.self.inside in
    let lt : c.args.lit.var < length v.values.items = omega arith in
    rw (← c.self.view_is) (value_read v.trail.items v.values.items _ v.positions.items c.args.lit _ _
    c.self.invariant.assigned c.as_slice-values.ensures.value lt c.for_sign.ensures)
