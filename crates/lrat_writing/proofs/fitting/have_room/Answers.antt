use Rattle.std.proofs.Common.{◌<◌, length, arith, subst, sym, ap, ◌∙◌, true}
use Rattle.std.proofs.lemmas.List.{take_all}
use Rattle.plain_lits.specs.Checking.{HasRoomFor, HaveRoomFor}
use Rattle.hinted_log.specs.Logs.{clauses_of, step_at}
use Rattle.lrat_writing.proofs.RoomsAndOrder.{rooms_more}
use Rattle.lrat_writing.proofs.fitting.have_room.Goals as goal

pub loop-index-preserved : goal.loop-index-preserved
loop-index-preserved c =
    let long = c.len-index-end.ensures.steps in
    let test = c.loop-index-test.true in
    let lt : c.loop-index.index < length c.args.log.now.steps = omega (arith, long, test) in
    rooms_more c.args.vars c.args.log.now.steps c.loop-index.index c.new.result lt c.new.ensures c.loop-index.invariant
    (subst (λ ls. HasRoomFor c.args.vars ls) c.clause.ensures.clause c.if-not-has_room.ensures)

pub returns : goal.returns
returns c =
    let long = c.len-index-end.ensures.steps in
    let test = c.loop-index-test.false in
    subst (λ ss. HaveRoomFor c.args.vars (clauses_of ss))
    (take_all c.loop-index.index c.args.log.now.steps (omega (arith, long, test))) c.loop-index.invariant
