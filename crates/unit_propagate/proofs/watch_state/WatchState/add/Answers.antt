use Rattle.unit_propagate.specs.States.{state_of}
use Rattle.unit_propagate.proofs.Growing.{stays_room, on_err}
use Rattle.unit_propagate.proofs.Learning.{stays_more, gains_more}
use Rattle.unit_propagate.proofs.watch_state.WatchState.add.Goals as goal

pub pick-pair-requires : goal.pick-pair-requires
pick-pair-requires c = c.in_ok-prepare.ensures.ok.packs

pub add_watching-requires : goal.add_watching-requires
add_watching-requires c = record {
  kept = c.prepare.ensures.kept;
  ready = c.in_ok-prepare.ensures.ok;
  pair = c.pick-pair.ensures.pair;
  last = c.pick-pair.ensures.last;
}

pub returns : goal.returns
returns c = record {
  kept = c.add_watching.ensures.kept;
  ok = gains_more (state_of c.args.self.now) (state_of c.prepare.new.self) (state_of c.add_watching.new.self)
      c.args.clause.now c.in_ok-id.id c.prepare.ensures.room c.in_ok-id.ensures.ok;
  err = tt;
}

pub returns-in_err-prepare-clause-err : goal.returns-in_err-prepare-clause-err
returns-in_err-prepare-clause-err c =
    on_err c.from_residual.result _ (stays_room (state_of c.args.self.now) (state_of c.prepare.new.self)
    c.prepare.ensures.room)

pub returns-in_err-id-clause-err : goal.returns-in_err-id-clause-err
returns-in_err-id-clause-err c =
    on_err c.from_residual-in_err-id.result _ (stays_more (state_of c.args.self.now) (state_of c.prepare.new.self)
    (state_of c.add_watching.new.self) c.prepare.ensures.room c.in_err-id.ensures.err)
