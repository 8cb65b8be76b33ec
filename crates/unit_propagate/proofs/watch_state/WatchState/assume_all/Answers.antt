use Rattle.std.proofs.Common.{get_or, arith}
use Rattle.std.proofs.lemmas.List.Elements.{Contains-get_or}
use Rattle.clause_watches.specs.Arenas.{blank}
use Rattle.unit_propagate.specs.States.{state_of}
use Rattle.unit_propagate.proofs.Blocks.{assumes_none, assumes_next, still_open}
use Rattle.unit_propagate.proofs.watch_state.WatchState.assume_all.Goals as goal

pub loop-lit-init : goal.loop-lit-init
loop-lit-init c = record { kept = c.requires.kept; assumed = assumes_none _ }

pub assume_one-requires : goal.assume_one-requires
assume_one-requires c =
    let there = Contains-get_or c.args.lits.now c.loop-lit.lit-index blank c.loop-lit-test.true in
    let vars = c.loop-lit.invariant.assumed.vars in
    record {
      kept = c.loop-lit.invariant.kept;
      known = omega (arith, vars, c.requires.known (get_or c.args.lits.now c.loop-lit.lit-index blank) there);
      not_false = still_open (state_of c.args.self.now) (state_of c.loop-lit.self) c.args.lits.now c.loop-lit.lit-index
          _ c.loop-lit.invariant.assumed there
          c.requires.not_false c.requires.plain;
    }

pub loop-lit-preserved : goal.loop-lit-preserved
loop-lit-preserved c = record {
  kept = c.assume_one.ensures.kept;
  assumed = assumes_next _ (state_of c.loop-lit.self) _ c.args.lits.now c.loop-lit.lit-index c.loop-lit-test.true
      c.loop-lit.invariant.assumed c.assume_one.ensures.assumed;
}
