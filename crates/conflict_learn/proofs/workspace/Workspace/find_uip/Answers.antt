use Rattle.std.proofs.Common.{arith}
use Rattle.conflict_learn.specs.declared.workspace.Border.TheVariants.{Below}
use Rattle.conflict_learn.specs.Analyses.{analysis_of}
use Rattle.conflict_learn.proofs.Descending.{at_positive, last_is, last_lower}
use Rattle.conflict_learn.proofs.workspace.Workspace.find_uip.Goals as goal

pub overflow_sub-index : goal.overflow_sub-index
overflow_sub-index c =
    at_positive c.args.search.now (Below c.args.start) (analysis_of c.walk_level.new.self) c.in_ok-before.before
    c.in_ok-before.ensures.at (omega (arith, c.in_ok-before.ensures.one))

pub loop-index-init : goal.loop-index-init
loop-index-init c =
    let some = at_positive c.args.search.now (Below c.args.start) (analysis_of c.walk_level.new.self)
    c.in_ok-before.before c.in_ok-before.ensures.at (omega (arith, c.in_ok-before.ensures.one)) in (
      omega (arith, some),
      λ k e. let lt = c.in_ok-before.ensures.at.below k e in omega (arith, lt),
      c.in_ok-before.ensures.at,
      c.in_ok-before.ensures.one,
    )

pub overflow_sub-index-in-loop-index : goal.overflow_sub-index-in-loop-index
overflow_sub-index-in-loop-index c =
    (last_lower c.args.search.now c.args.start (analysis_of c.walk_level.new.self) c.in_ok-before.before
    c.loop-index.index
    c.index.result.now c.loop-index.invariant.2 c.loop-index.invariant.3 c.loop-index.invariant.0
    c.loop-index.invariant.1 c.index.ensures
    c.loop-index-test.true).0

pub loop-index-preserved : goal.loop-index-preserved
loop-index-preserved c =
    let low = last_lower c.args.search.now c.args.start (analysis_of c.walk_level.new.self) c.in_ok-before.before
    c.loop-index.index
    c.index.result.now c.loop-index.invariant.2 c.loop-index.invariant.3 c.loop-index.invariant.0
    c.loop-index.invariant.1 c.index.ensures
    c.loop-index-test.true in
    let lt = c.loop-index.invariant.0 in
    (omega (arith, lt), low.1, c.loop-index.invariant.2, c.loop-index.invariant.3)

pub loop-index-smaller : goal.loop-index-smaller
loop-index-smaller c =
    let low = last_lower c.args.search.now c.args.start (analysis_of c.walk_level.new.self) c.in_ok-before.before
    c.loop-index.index
    c.index.result.now c.loop-index.invariant.2 c.loop-index.invariant.3 c.loop-index.invariant.0
    c.loop-index.invariant.1 c.index.ensures
    c.loop-index-test.true in
    let some = low.0 in
    omega (arith, some)

pub returns : goal.returns
returns c = record {
  before = c.in_ok-before.before;
  at = c.loop-index.invariant.2;
  last = last_is c.args.search.now c.args.start (analysis_of c.walk_level.new.self) c.in_ok-before.before
      c.loop-index.index
      c.index.result.now c.loop-index.invariant.2 c.loop-index.invariant.3 c.loop-index.invariant.0
      c.loop-index.invariant.1 c.index.ensures
      c.loop-index-test.false;
}
