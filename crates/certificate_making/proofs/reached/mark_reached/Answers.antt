use Rattle.std.proofs.Common.{ℕ, refl, sym, subst, arith}
use Rattle.oracle_face.specs.Logs.{IsNumberOf}
use Rattle.certificate_making.proofs.WalkLemmas.{walk_first, walk_last, walk_next_hint, walk_next_marked}
use Rattle.certificate_making.proofs.WalkLemmas.{walk_next_unmarked}
use Rattle.certificate_making.proofs.reached.mark_reached.Goals as goal
use Rattle.certificate_making.proofs.reached.mark_reached.Goals.{then-mark-ne0, else-mark-ne0}

pub loop-down-init : goal.loop-down-init
loop-down-init g c = walk_first (g.L.ReadLog.log c.args.log.now) c.number-last.result c.new-marks.result.items
    c.resize.new.self.items _ _ c.new-marks.ensures.items c.new-marks.ensures.len c.in_ok-resize.ensures.items refl

pub mark_hints-requires : goal.mark_hints-requires
mark_hints-requires g c = λ hint h. walk_next_hint (g.L.ReadLog.framework c.args.log.now)
    (g.L.ReadLog.log c.args.log.now) c.number-last.result c.loop-down.down c.new.result hint c.loop-down.marks.items
    c.hints.result.now c.requires.form
    (subst (λ (n : ℕ). IsNumberOf (g.L.ReadLog.log c.args.log.now).steps n) (sym c.number-last.ensures)
    c.requires.step) c.loop-down-test.true c.loop-down.invariant c.new.ensures c.hints.ensures h

pub loop-down-preserved : goal.loop-down-preserved
loop-down-preserved g c = elim c.if-mark-ne0.branch [
  | then-mark-ne0 w ↦ rw w.marks-is (walk_next_marked (g.L.ReadLog.framework c.args.log.now)
      (g.L.ReadLog.log c.args.log.now) c.number-last.result c.loop-down.down w.new.result c.loop-down.marks.items
      w.mark_hints.new.marks.items w.hints.result.now c.requires.form
      (subst (λ (n : ℕ). IsNumberOf (g.L.ReadLog.log c.args.log.now).steps n) (sym c.number-last.ensures)
      c.requires.step) c.loop-down-test.true c.loop-down.invariant
      (let mark = rw c.as_slice.ensures.value at w.if-mark-ne0.true in omega (arith, mark)) w.new.ensures
      w.hints.ensures w.mark_hints.ensures)
  | else-mark-ne0 w ↦ rw w.marks-is (walk_next_unmarked (g.L.ReadLog.log c.args.log.now) c.number-last.result
      c.loop-down.down c.loop-down.marks.items c.loop-down-test.true c.loop-down.invariant
      (rw c.as_slice.ensures.value at w.if-mark-ne0.false))
]

pub returns : goal.returns
returns g c = walk_last (g.L.ReadLog.framework c.args.log.now) (g.L.ReadLog.log c.args.log.now) c.args.step
    c.number-last.result c.loop-down.down c.loop-down.marks.items c.requires.form c.requires.step c.number-last.ensures
    (omega (arith, c.loop-down-test.false)) c.loop-down.invariant
