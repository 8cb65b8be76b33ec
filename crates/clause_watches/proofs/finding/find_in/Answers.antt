use Rattle.clause_watches.proofs.Looking.{found_open, looked_false, looked_other}
use Rattle.clause_watches.proofs.finding.find_in.Goals as goal
use Rattle.clause_watches.proofs.finding.find_in.Goals.{then-code-other+in-False, else-code-other}

pub returns-in_default : goal.returns-in_default
returns-in_default c =
    found_open c.args.trail.now.lits c.args.part.now c.loop-at.at c.index-part-at.result c.lit.result
    c.code.result c.args.other
    c.value.result c.loop-at-test.true c.index-part-at.is c.lit.ensures.lit c.code.ensures.code c.if-code-other.true
    c.value.ensures.value c.in_default.not-False

pub loop-at-preserved : goal.loop-at-preserved
loop-at-preserved c =
    elim c.if-code-other.branch [
      | then-code-other+in-False w ↦ looked_false c.args.trail.now.lits c.args.part.now c.loop-at.at
          c.index-part-at.result w.lit.result c.args.other
          c.loop-at-test.true c.index-part-at.is w.lit.ensures.lit w.in-False.ensures.value c.loop-at.invariant
      | else-code-other w ↦ looked_other c.args.trail.now.lits c.args.part.now c.loop-at.at
          c.index-part-at.result c.code.result c.args.other
          c.loop-at-test.true c.index-part-at.is c.code.ensures.code w.if-code-other.false c.loop-at.invariant
    ]
