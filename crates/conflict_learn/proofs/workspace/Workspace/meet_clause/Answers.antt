use Rattle.std.proofs.Common.{ap}
use Rattle.plain_lits.specs.HintCheck.{clause_at}
use Rattle.conflict_learn.specs.Analyses.{analysis_of}
use Rattle.conflict_learn.proofs.Meeting.{all_met, all_past}
use Rattle.conflict_learn.proofs.workspace.Workspace.meet_clause.Goals as goal
use Rattle.conflict_learn.proofs.workspace.Workspace.meet_clause.Goals.{then-ne+in_ok-meet, else-ne}

pub loop-packed-preserved : goal.loop-packed-preserved
loop-packed-preserved c =
    elim c.if-ne.branch [
      | then-ne+in_ok-meet w ↦ all_met c.args.search.now c.args.border (analysis_of c.args.self.now)
          (analysis_of c.loop-packed.self) (analysis_of w.meet.new.self) (analysis_of c.if-ne.self)
          (clause_at c.args.search.now.clauses c.args.id) c.clause-packed-items.result.now
          c.args.but c.packed-item.result c.lit-lit.result
          c.loop-packed.packed-index c.ne.result c.clause-packed-items.ensures c.loop-packed-test.true c.packed-item.is
          c.lit-lit.ensures.lit c.ne.ensures w.if-ne.true c.loop-packed.invariant.1 w.in_ok-meet.ensures.counted
          w.in_ok-meet.ensures.met (ap analysis_of w.self-is)
      | else-ne w ↦ all_past c.args.search.now c.args.border (analysis_of c.args.self.now)
          (analysis_of c.loop-packed.self) (analysis_of c.if-ne.self)
          (clause_at c.args.search.now.clauses c.args.id) c.clause-packed-items.result.now
          c.args.but c.packed-item.result c.lit-lit.result
          c.loop-packed.packed-index c.ne.result c.clause-packed-items.ensures c.loop-packed-test.true c.packed-item.is
          c.lit-lit.ensures.lit c.ne.ensures w.if-ne.false c.loop-packed.invariant.0 c.loop-packed.invariant.1
          (ap analysis_of w.self-is)
    ]
