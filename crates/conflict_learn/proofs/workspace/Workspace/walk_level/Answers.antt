use Rattle.std.proofs.Common.{arith}
use Rattle.conflict_learn.specs.declared.workspace.Border.TheVariants.{Below}
use Rattle.conflict_learn.specs.Analyses.{analysis_of}
use Rattle.conflict_learn.proofs.Descending.{at_positive, at_lower, level_reason}
use Rattle.conflict_learn.proofs.workspace.Workspace.walk_level.Goals as goal

pub overflow_sub-index : goal.overflow_sub-index
overflow_sub-index c =
    at_positive c.args.search.now (Below c.args.start) (analysis_of c.loop-self.self) c.loop-self.index
    c.loop-self.invariant.0 c.loop-self.invariant.1

pub step-requires-clause-at : goal.step-requires-clause-at
step-requires-clause-at c =
    at_lower c.args.search.now (Below c.args.start) (analysis_of c.loop-self.self) c.loop-self.index
    c.loop-self.invariant.0 (at_positive c.args.search.now (Below c.args.start) (analysis_of c.loop-self.self)
    c.loop-self.index c.loop-self.invariant.0 c.loop-self.invariant.1)

pub step-requires-clause-reason : goal.step-requires-clause-reason
step-requires-clause-reason c =
    level_reason c.args.search.now c.args.start (analysis_of c.loop-self.self) _
    (at_lower c.args.search.now (Below c.args.start) (analysis_of c.loop-self.self) c.loop-self.index
    c.loop-self.invariant.0 (at_positive c.args.search.now (Below c.args.start) (analysis_of c.loop-self.self)
    c.loop-self.index c.loop-self.invariant.0 c.loop-self.invariant.1))
    c.loop-self-test.true c.requires.decided c.requires.start

pub loop-self-smaller : goal.loop-self-smaller
loop-self-smaller c =
    let some = at_positive c.args.search.now (Below c.args.start) (analysis_of c.loop-self.self) c.loop-self.index
    c.loop-self.invariant.0 c.loop-self.invariant.1 in
    omega (arith, some)
