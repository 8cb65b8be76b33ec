use Rattle.std.proofs.Common.{length, ap, ◌∙◌, arith, refl}
use Rattle.unit_propagate.specs.States.{state_of}
use Rattle.clause_watches.specs.WatchLists.{ids_at}
use Rattle.unit_propagate.proofs.Visiting.{grows_same, grows_trans, grown_there, done_all, done_none, ids_are}
use Rattle.unit_propagate.proofs.watch_state.WatchState.visit.Goals as goal

pub ids-init : goal.ids-init
ids-init c = record {
  kept = c.requires.kept;
  grown = grows_same _;
  inside = c.requires.inside;
  falsified_now = c.requires.falsified_now;
  done = done_none _ _;
  head = refl;
  done_same = refl;
}

pub visit_one-requires : goal.visit_one-requires
visit_one-requires c =
    let below = c.ids-test.true in
    let same = ap length (c.ids_in.ensures ∙ ap (λ l. ids_at l c.args.code) c.as_slice.ensures.value) in
    record {
      kept = c.ids.invariant.kept;
      code_is = c.requires.code_is;
      inside = c.ids.invariant.inside;
      falsified_now = c.ids.invariant.falsified_now;
      at = omega (arith, below, same);
      done = c.ids.invariant.done;
    }

pub returns : goal.returns
returns c =
    let ids = ids_are c.ids.self.lists.items c.as_slice.result.now c.ids_in.result.now c.args.code c.args.falsified
    c.ids_in.ensures c.as_slice.ensures.value c.requires.code_is in
    let past = c.ids-test.false in
    let same = ap length ids in
    record {
      kept = c.ids.invariant.kept;
      grown = c.ids.invariant.grown;
      all = done_all (state_of c.ids.self) c.args.falsified c.ids.at (omega (arith, past, same)) c.ids.invariant.done;
      head = c.ids.invariant.head;
      done_same = c.ids.invariant.done_same;
    }

pub returns-in-Failed : goal.returns-in-Failed
returns-in-Failed c = record {
  kept = c.in-Failed.ensures.kept;
  grown = grows_trans _ _ _ c.ids.invariant.grown c.in-Failed.ensures.grown;
  all = c.in-Failed.ensures.visit;
  head = c.in-Failed.ensures.head ∙ c.ids.invariant.head;
  done_same = c.in-Failed.ensures.done_same ∙ c.ids.invariant.done_same;
}

pub ids-preserved : goal.ids-preserved
ids-preserved c =
    let g = c.in-Moved.ensures.grown in
    let before = c.ids.invariant.grown in
    let inside = c.ids.invariant.inside in
    let lists = g.lists in
    record {
      kept = c.in-Moved.ensures.kept;
      grown = grows_trans _ _ _ before g;
      inside = omega arith;
      falsified_now = grown_there _ _ _ g c.ids.invariant.falsified_now;
      done = c.in-Moved.ensures.visit.0;
      head = c.in-Moved.ensures.head ∙ c.ids.invariant.head;
      done_same = c.in-Moved.ensures.done_same ∙ c.ids.invariant.done_same;
    }

pub ids-smaller : goal.ids-smaller
ids-smaller c =
    let ids = ids_are c.ids.self.lists.items c.as_slice.result.now c.ids_in.result.now c.args.code c.args.falsified
    c.ids_in.ensures c.as_slice.ensures.value c.requires.code_is in
    let below = c.ids-test.true in
    let same = ap length ids in
    let count = c.in-Moved.ensures.visit.1 in
    omega (arith, below, same, count)

pub ids-preserved-in-Kept : goal.ids-preserved-in-Kept
ids-preserved-in-Kept c =
    let g = c.in-Kept.ensures.grown in
    let before = c.ids.invariant.grown in
    let inside = c.ids.invariant.inside in
    let lists = g.lists in
    record {
      kept = c.in-Kept.ensures.kept;
      grown = grows_trans _ _ _ before g;
      inside = omega arith;
      falsified_now = grown_there _ _ _ g c.ids.invariant.falsified_now;
      done = c.in-Kept.ensures.visit.0;
      head = c.in-Kept.ensures.head ∙ c.ids.invariant.head;
      done_same = c.in-Kept.ensures.done_same ∙ c.ids.invariant.done_same;
    }

pub ids-smaller-in-Kept : goal.ids-smaller-in-Kept
ids-smaller-in-Kept c =
    let ids = ids_are c.ids.self.lists.items c.as_slice.result.now c.ids_in.result.now c.args.code c.args.falsified
    c.ids_in.ensures c.as_slice.ensures.value c.requires.code_is in
    let below = c.ids-test.true in
    let same = ap length ids in
    let count = c.in-Kept.ensures.visit.1 in
    omega (arith, below, same, count)
