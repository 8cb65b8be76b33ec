use Rattle.std.proofs.Common.{◌-◌, arith}
use Rattle.unit_propagate.proofs.Rooms.{lowers_none, lowers_next, lowers_rest, lowers_all}
use Rattle.unit_propagate.proofs.adding.lower_progress.Goals as goal

pub levels-init : goal.levels-init
levels-init c = record { within = omega arith; lowered = lowers_none _ _ _ }

pub levels-preserved : goal.levels-preserved
levels-preserved c =
    let within = c.levels.invariant.within in
    record {
      within = omega arith;
      lowered = lowers_next _ _ _ c.args.starts.now c.levels.level c.args.index c.levels-test.true
          c.levels.invariant.lowered c.lower_progress_at.ensures;
    }

pub returns : goal.returns
returns c = lowers_all _ _ c.args.starts.now c.levels.level c.args.index c.levels-test.false c.levels.invariant.lowered

pub returns-then-start-index : goal.returns-then-start-index
returns-then-start-index c =
    lowers_rest _ _ c.args.starts.now c.levels.level c.args.index c.levels-test.true c.levels.invariant.within
    c.requires.levels c.requires.heads
    c.if-start-index.true c.levels.invariant.lowered

pub lower_progress_at-requires : goal.lower_progress_at-requires
lower_progress_at-requires c =
    let within = c.levels.invariant.within in
    let some = c.levels-test.true in
    omega (arith, c.requires.within (c.levels.level - 1) (omega arith), c.levels.invariant.lowered.long)
