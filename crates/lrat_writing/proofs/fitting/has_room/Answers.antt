use Rattle.std.proofs.Common.{◌<◌, length, arith, subst, ◌∙◌}
use Rattle.std.proofs.lemmas.List.{take_all}
use Rattle.plain_lits.specs.declared.lit.Lit.{Lit}
use Rattle.plain_lits.specs.Checking.{HasRoomFor}
use Rattle.lrat_writing.proofs.RoomsAndOrder.{room_more}
use Rattle.lrat_writing.proofs.fitting.has_room.Goals as goal

pub loop-packed-preserved : goal.loop-packed-preserved
loop-packed-preserved c =
    room_more c.args.vars c.args.clause.now c.loop-packed.packed-index c.packed-item.result c.loop-packed-test.true
    c.loop-packed.invariant
    (subst (λ (l : Lit). l.var < c.args.vars) (c.lit.ensures.lit ∙ c.packed-item.is) c.if-lit-vars.false)

pub returns : goal.returns
returns c =
    subst (λ ls. HasRoomFor c.args.vars ls)
    (take_all c.loop-packed.packed-index c.args.clause.now (let test = c.loop-packed-test.false in omega (arith, test)))
    c.loop-packed.invariant
