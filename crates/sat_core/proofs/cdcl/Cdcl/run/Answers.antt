use Rattle.std.proofs.Common.{◌+◌, arith, refl, ◌∙◌}
use Rattle.sat_core.specs.Solving.{nothing}
use Rattle.sat_core.specs.Turns.{state_of}
use Rattle.sat_core.proofs.Keeping.{derives_logs, derives_trans}
use Rattle.sat_core.proofs.Searching.{learns_more, counted_more}
use Rattle.sat_core.proofs.cdcl.Cdcl.run.Goals as goal

pub conflicts-init : goal.conflicts-init
conflicts-init c = record {
  kept = c.requires.kept;
  run = c.requires.run;
  learns = (0, nothing (state_of c.args.self.now), omega arith);
  derives = derives_logs _ _ refl refl;
  limit = refl;
}

pub conflicts-preserved : goal.conflicts-preserved
conflicts-preserved c =
    let g = c.in-None.ensures.turn in
    let w = c.conflicts.invariant.learns in
    record {
      kept = c.in-None.ensures.kept;
      run = g.run;
      learns = (w.0 + 1, learns_more _ _ _ _ w.0 w.1 g.learns, counted_more _ _ _ _ w.2 g.spent);
      derives = derives_trans _ _ _ c.conflicts.invariant.derives c.in-None.ensures.derives;
      limit = c.in-None.ensures.limit ∙ c.conflicts.invariant.limit;
    }

pub returns-in-Some-clause-derives : goal.returns-in-Some-clause-derives
returns-in-Some-clause-derives c = derives_trans _ _ _ c.conflicts.invariant.derives c.in-Some.ensures.derives
