use Rattle.std.proofs.Common.{sym, subst}
use Rattle.std.specs.Prelude.{Contains}
use Rattle.clause_watches.proofs.Pairing.{rank_open, rank_got}
use Rattle.clause_watches.proofs.picking.rank_of.Goals as goal

pub returns-in-False : goal.returns-in-False
returns-in-False c = rank_got c.args.trail.now.lits c.args.lit c.not.result c.position.result
    c.position.ensures.form.apart c.position.ensures.position c.not.ensures

pub returns-in_default : goal.returns-in_default
returns-in_default c = rank_open c.args.trail.now.lits c.args.lit c.value.result _ c.value.ensures.value
    c.in_default.not-False c.len.ensures.length

pub position-requires : goal.position-requires
position-requires c = subst (Contains c.args.trail.now.lits) (sym c.not.ensures) c.in-False.ensures.value.0
