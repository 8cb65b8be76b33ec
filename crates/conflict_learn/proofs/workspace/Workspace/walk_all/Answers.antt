use Rattle.std.proofs.Common.{arith}
use Rattle.conflict_learn.specs.declared.workspace.Border.TheVariants.{Assumed}
use Rattle.conflict_learn.specs.Analyses.{analysis_of}
use Rattle.conflict_learn.proofs.Descending.{at_positive, at_lower, assumed_reason}
use Rattle.conflict_learn.proofs.workspace.Workspace.walk_all.Goals as goal

pub overflow_sub-index : goal.overflow_sub-index
overflow_sub-index c =
    at_positive c.args.search.now Assumed (analysis_of c.loop-self.self) c.loop-self.index c.loop-self.invariant
    c.loop-self-test.true

pub step-requires-clause-at : goal.step-requires-clause-at
step-requires-clause-at c =
    at_lower c.args.search.now Assumed (analysis_of c.loop-self.self) c.loop-self.index c.loop-self.invariant
    (at_positive c.args.search.now Assumed (analysis_of c.loop-self.self) c.loop-self.index c.loop-self.invariant
    c.loop-self-test.true)

pub step-requires-clause-reason : goal.step-requires-clause-reason
step-requires-clause-reason c = assumed_reason c.args.search.now (analysis_of c.loop-self.self) _

pub loop-self-smaller : goal.loop-self-smaller
loop-self-smaller c =
    let some = at_positive c.args.search.now Assumed (analysis_of c.loop-self.self) c.loop-self.index
    c.loop-self.invariant c.loop-self-test.true in
    omega (arith, some)
