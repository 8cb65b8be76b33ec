use Rattle.std.proofs.Common.{◌+◌, [], ◌∷◌, ◌++◌, ap, ◌∙◌, sym, length}
use Rattle.unit_propagate.specs.States.{State, state_of}
use Rattle.unit_propagate.proofs.Learning.{stays}
use Rattle.unit_propagate.proofs.Growing.{stays_lowered, stays_same, low_lowered, ready_lowered}
use Rattle.unit_propagate.proofs.Growing.{unfalse_lowered, gains, watched_last, on_err}
use Rattle.unit_propagate.proofs.watch_state.WatchState.add_watching.Goals as goal

pub insert-requires : goal.insert-requires
insert-requires c =
    let m = state_of c.args.self.now in
    let w = state_of c.lower.new.self in
    let low = c.lower.ensures.low in
    let index = c.smaller-index.result in
    record {
      kept = c.lower.ensures.kept;
      ready = ready_lowered m w index c.args.clause.now low c.requires.ready;
      pair = c.requires.pair;
      id_is = c.in_ok-id.ensures ∙ ap (λ (s : State). length s.clauses + 1) (sym low.rest);
      low = low_lowered m w index low;
      first = unfalse_lowered m w index c.rank_of.result c.lit.result c.args.pair.first low
          c.smaller-index.ensures.first c.lit.ensures.lit c.rank_of.ensures.before;
      second = unfalse_lowered m w index c.rank_of-2.result c.lit-2.result c.args.pair.second low
          c.smaller-index.ensures.second c.lit-2.ensures.lit c.rank_of-2.ensures.before;
    }

pub returns : goal.returns
returns c =
    let m = state_of c.args.self.now in
    let w = state_of c.lower.new.self in
    let low = c.lower.ensures.low in
    record {
      kept = c.insert.ensures.kept;
      ok = gains m w (state_of c.insert.new.self) c.args.clause.now c.in_ok-id.id
          (stays_lowered m m w c.smaller-index.result (stays m) low)
          c.in_ok-insert.ensures.ok (ready_lowered m w c.smaller-index.result c.args.clause.now low c.requires.ready)
          (c.in_ok-id.ensures ∙ ap (λ (s : State). length s.clauses + 1) (sym low.rest))
          (watched_last m (state_of c.insert.new.self) c.args.clause.now c.args.pair c.in_ok-id.id c.requires.kept
          (c.in_ok-insert.ensures.pairs ∙ ap (λ (s : State). s.pairs ++ c.args.pair ∷ []) low.rest)
          c.in_ok-id.ensures c.requires.last);
      pairs = c.in_ok-insert.ensures.pairs ∙ ap (λ (s : State). s.pairs ++ c.args.pair ∷ []) low.rest;
      err = tt;
    }

pub returns-in_err-insert-clause-err : goal.returns-in_err-insert-clause-err
returns-in_err-insert-clause-err c =
    let m = state_of c.args.self.now in
    let w = state_of c.lower.new.self in
    on_err c.from_residual-in_err-insert.result _ (stays_same m w (state_of c.insert.new.self)
    (stays_lowered m m w c.smaller-index.result (stays m) c.lower.ensures.low) c.in_err-insert.ensures.err)

pub returns-in_err-id-clause-err : goal.returns-in_err-id-clause-err
returns-in_err-id-clause-err c = on_err c.from_residual.result _ (stays (state_of c.args.self.now))
