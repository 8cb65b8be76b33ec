use Rattle.std.proofs.Common.{arith}
use Rattle.unit_propagate.specs.States.{state_of}
use Rattle.clause_watches.proofs.Fronts.{packed_low}
use Rattle.unit_propagate.proofs.Growing.{kept_lists, makes_claim, makes_same}
use Rattle.unit_propagate.proofs.Rooms.{room_for}
use Rattle.unit_propagate.proofs.watch_state.WatchState.prepare.Goals as goal

pub make_room-requires : goal.make_room-requires
make_room-requires c = record { kept = c.requires; few = c.in_ok-vars.ensures.fits }

pub claim_all-requires : goal.claim_all-requires
claim_all-requires c = λ l there.
    let below = c.in_ok-vars.ensures.below l there in
    let enough = c.in_ok-make_room.ensures.ok in
    let long = c.make_room.ensures.room.lists_long in
    let low = packed_low l c.make_room.new.self.trail.vars (omega arith) in
    omega arith

pub returns : goal.returns
returns c =
    let m = state_of c.make_room.new.self in
    let enough = c.in_ok-make_room.ensures.ok in
    record {
      kept = kept_lists m c.claim_all.new.lists.items c.make_room.ensures.kept c.claim_all.ensures.room;
      room = makes_claim _ m c.claim_all.new.lists.items c.make_room.ensures.room c.claim_all.ensures.room;
      ok = record {
        known = λ l there. let below = c.in_ok-vars.ensures.below l there in omega arith;
        packs = c.in_ok-vars.ensures.packs;
        room = room_for m c.claim_all.new.lists.items c.args.clause.now c.make_room.ensures.kept
            c.in_ok-claim_all.ensures.ok;
      };
    }

pub returns-in_err-claim_all-clause-kept : goal.returns-in_err-claim_all-clause-kept
returns-in_err-claim_all-clause-kept c =
    kept_lists (state_of c.make_room.new.self) c.claim_all.new.lists.items c.make_room.ensures.kept
    c.claim_all.ensures.room

pub returns-in_err-claim_all-clause-room : goal.returns-in_err-claim_all-clause-room
returns-in_err-claim_all-clause-room c =
    makes_claim _ (state_of c.make_room.new.self) c.claim_all.new.lists.items c.make_room.ensures.room
    c.claim_all.ensures.room

pub returns-in_err-vars-clause-room : goal.returns-in_err-vars-clause-room
returns-in_err-vars-clause-room c = makes_same (state_of c.args.self.now) c.requires
