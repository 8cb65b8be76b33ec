use Rattle.std.proofs.Common.{arith}
use Rattle.certificate_making.proofs.WritingLemmas.{may_write, writing_next}
use Rattle.certificate_making.proofs.refute.write_steps.Goals as goal

pub write_step-requires-clause-marked : goal.write_step-requires-clause-marked
write_step-requires-clause-marked g c = rw c.new.ensures
    (may_write (g.L.ReadLog.framework c.args.log.now) (g.L.ReadLog.log c.args.log.now) c.args.step
    c.loop-number.number c.args.positions.now c.loop-number.numbers.items c.loop-number.steps c.requires.form
    c.requires.step c.loop-number.invariant)

pub loop-number-preserved : goal.loop-number-preserved
loop-number-preserved g c = writing_next (g.L.ReadLog.framework c.args.log.now) (g.L.ReadLog.log c.args.log.now)
    c.args.step c.loop-number.number c.args.positions.now c.loop-number.numbers.items c.write_step.new.numbers.items
    c.loop-number.steps c.write_step.new.steps c.requires.form c.requires.step c.loop-number.invariant
    (omega (
      arith,
      c.loop-number-test.true,
      c.len-number-end.ensures,
      c.requires.marks.long,
      c.loop-number.invariant.room,
    ))
    (rw c.new.ensures at c.in_ok-write_step.ensures)
