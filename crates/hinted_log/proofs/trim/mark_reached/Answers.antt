use Rattle.std.proofs.Common.{refl, arith}
use Rattle.hinted_log.proofs.TrimmingLemmas.{walk_first, walk_next_hint, walk_next_marked, walk_next_unmarked, walk_last}
use Rattle.hinted_log.proofs.trim.mark_reached.Goals as goal
use Rattle.hinted_log.proofs.trim.mark_reached.Goals.{then-reached, else-reached}

pub loop-down-init : goal.loop-down-init
loop-down-init c = walk_first c.args.steps.now c.number-last.result c.new-marks.result.items c.resize.new.self.items _ _
    c.new-marks.ensures.items
    c.new-marks.ensures.len c.in_ok-resize.ensures.items refl

pub mark_hints-requires : goal.mark_hints-requires
mark_hints-requires c = record {
  within = λ hint h. walk_next_hint c.args.steps.now c.args.step c.number-last.result c.loop-down.down hint
      c.loop-down.marks.items c.hints.result.now
      c.requires.proof c.requires.step c.number-last.ensures c.loop-down-test.true c.loop-down.invariant c.hints.ensures
      h;
}

pub loop-down-preserved : goal.loop-down-preserved
loop-down-preserved c = elim c.if-reached.branch [
  | then-reached w ↦ rw w.marks-is (walk_next_marked c.args.steps.now c.args.step c.number-last.result c.loop-down.down
      c.loop-down.marks.items _ w.mark_hints.new.marks.items
      w.hints.result.now c.requires.proof c.requires.step c.number-last.ensures c.loop-down-test.true
      c.loop-down.invariant
      c.as_slice.ensures.value w.if-reached.true w.hints.ensures w.mark_hints.ensures.marked)
  | else-reached w ↦ rw w.marks-is (walk_next_unmarked c.args.steps.now c.number-last.result c.loop-down.down
      c.loop-down.marks.items _ c.loop-down-test.true
      c.loop-down.invariant c.as_slice.ensures.value w.if-reached.false)
]

pub returns-clause-marked : goal.returns-clause-marked
returns-clause-marked c = walk_last c.args.steps.now c.args.step c.number-last.result c.loop-down.down
    c.loop-down.marks.items c.requires.proof c.requires.step
    c.number-last.ensures (omega arith) c.loop-down.invariant
