use Rattle.std.proofs.Common.{arith, ap, ◌∙◌, subst}
use Rattle.std.specs.Prelude.{Contains}
use Rattle.plain_lits.specs.Literals.{negation}
use Rattle.unit_propagate.specs.States.{State, state_of}
use Rattle.unit_propagate.proofs.Blocks.{gains_block, stays_marked}
use Rattle.unit_propagate.proofs.Growing.{on_err, makes_same, stays_room}
use Rattle.unit_propagate.proofs.watch_state.WatchState.assume_block.Goals as goal

pub make_room-requires : goal.make_room-requires
make_room-requires c = record { kept = c.requires.kept; few = c.in_ok-vars.ensures.fits }

pub assume_all-requires : goal.assume_all-requires
assume_all-requires c =
    let enough = c.in_ok-make_room.ensures.ok in
    let vars = ap (λ (s : State). s.vars) c.in_ok-begin_level.ensures.ok in
    let lits = ap (λ (s : State). s.lits) c.in_ok-begin_level.ensures.ok
    ∙ ap (λ (s : State). s.lits) c.make_room.ensures.room.rest in
    record {
      kept = c.begin_level.ensures.kept;
      known = λ l there. let below = c.in_ok-vars.ensures.below l there in omega (arith, vars);
      not_false = λ l there bad. c.requires.not_false l there (subst (λ xs. Contains xs (negation l)) lits bad);
      plain = c.requires.plain;
    }

pub returns : goal.returns
returns c =
    let s = state_of c.args.self.now in
    record {
      kept = c.assume_all.ensures.kept;
      ok = gains_block s (state_of c.make_room.new.self) (state_of c.begin_level.new.self)
          (state_of c.assume_all.new.self) c.args.lits.now c.in_ok-vars.vars
          c.make_room.ensures.room c.in_ok-make_room.ensures.ok c.in_ok-vars.ensures c.in_ok-begin_level.ensures.ok
          c.assume_all.ensures.assumed;
      err = tt;
    }

pub returns-in_err-vars-clause-err : goal.returns-in_err-vars-clause-err
returns-in_err-vars-clause-err c =
    on_err c.from_residual.result _ (stays_room (state_of c.args.self.now) (state_of c.args.self.now)
    (makes_same (state_of c.args.self.now) c.requires.kept))

pub returns-in_err-make_room-clause-err : goal.returns-in_err-make_room-clause-err
returns-in_err-make_room-clause-err c =
    on_err c.from_residual-in_err-make_room.result _
    (stays_room (state_of c.args.self.now) (state_of c.make_room.new.self) c.make_room.ensures.room)

pub returns-in_err-begin_level-clause-err : goal.returns-in_err-begin_level-clause-err
returns-in_err-begin_level-clause-err c =
    on_err c.from_residual-in_err-begin_level.result _ (stays_marked (state_of c.args.self.now)
    (state_of c.make_room.new.self) (state_of c.begin_level.new.self)
    (stays_room (state_of c.args.self.now) (state_of c.make_room.new.self) c.make_room.ensures.room)
    c.in_err-begin_level.ensures.err)
