use Rattle.std.proofs.Common.{◌∷◌, ◌++◌, [], refl, arith, ap, sym, subst, ◌∙◌}
use Rattle.unit_propagate.specs.States.{State, state_of, IsKept}
use Rattle.unit_propagate.proofs.Growing.{room_pair, inserted, inserts}
use Rattle.unit_propagate.proofs.watch_state.WatchState.insert.Goals as goal

pub join-requires : goal.join-requires
join-requires c = record {
  room = room_pair (state_of c.args.self.now) c.args.clause.now c.args.pair c.requires.kept c.requires.ready.room
      c.requires.ready.known c.requires.pair;
  short = omega (arith, c.in_ok-reserve.ensures.ok);
}

pub returns : goal.returns
returns c =
    let s = state_of c.args.self.now in
    let fits = c.ranges.id in
    record {
      kept = subst IsKept (sym c.join.ensures.rest)
          (inserted s c.push.new.self.clauses c.push.new.self.pairs c.join.new.self.lists.items
          c.join.new.self.short.items c.args.clause.now c.args.pair c.args.pair
          c.args.id c.args.index c.requires.kept c.requires.ready c.requires.pair c.requires.id_is (omega arith)
          c.requires.low c.requires.first c.requires.second
          refl c.in_ok-push.ensures.clauses c.in_ok-push.ensures.pairs c.join.ensures.joins
          (λ e. c.join.ensures.alone e ∙ ap (λ xs. xs ++ c.args.id ∷ []) c.reserve.ensures.items)
          (λ ne. c.join.ensures.apart ne ∙ c.reserve.ensures.items));
      ok = inserts s (record s {
        clauses = c.push.new.self.clauses;
        pairs = c.push.new.self.pairs;
        short =
            c.reserve.new.self.items;
      }) (state_of c.join.new.self) c.args.clause.now c.join.new.self.lists.items
          c.join.new.self.short.items c.join.ensures.rest
          c.in_ok-push.ensures.clauses refl refl refl refl;
      pairs = ap (λ (n : State). n.pairs) c.join.ensures.rest ∙ c.in_ok-push.ensures.pairs;
      err = tt;
    }
