use Rattle.std.proofs.Common.{◌<◌, ◌+◌, length, arith, ◌∙◌, ap, sym}
use Rattle.std.proofs.lemmas.List.{get_or_default}
use Rattle.unit_propagate.specs.States.{state_of}
use Rattle.unit_propagate.proofs.Visiting.{grows_same, grows_trans, grows_done}
use Rattle.unit_propagate.proofs.Passing.{short_at, done_kept}
use Rattle.unit_propagate.proofs.watch_state.WatchState.propagate_unwatched.Goals as goal

pub shorts-init : goal.shorts-init
shorts-init c = record { kept = c.requires.kept; grown = grows_same _ }

pub visit_unwatched-requires : goal.visit_unwatched-requires
visit_unwatched-requires c =
    let s = state_of c.shorts.self in
    let below = c.shorts-test.true in
    let lt : s.done < length s.short = omega (arith, below, c.len.ensures) in
    record {
      kept = c.shorts.invariant.kept;
      short = short_at s s.done _ c.shorts.invariant.kept lt (get_or_default s.short s.done 0 _ lt
          ∙ sym c.index-id.ensures);
    }

pub shorts-preserved : goal.shorts-preserved
shorts-preserved c =
    let s = state_of c.shorts.self in
    let new = state_of c.visit_unwatched.new.self in
    let below = c.shorts-test.true in
    let lt : s.done < length s.short = omega (arith, below, c.len.ensures) in
    record {
      kept = done_kept s new _ c.if-not-visit_unwatched.ensures.kept c.if-not-visit_unwatched.ensures.grown
          c.if-not-visit_unwatched.ensures.done_same
          lt (get_or_default s.short s.done 0 _ lt ∙ sym c.index-id.ensures) c.if-not-visit_unwatched.ensures.holds;
      grown = grows_done _ new (new.done + 1)
          (grows_trans _ _ _ c.shorts.invariant.grown c.if-not-visit_unwatched.ensures.grown);
    }

pub shorts-smaller : goal.shorts-smaller
shorts-smaller c =
    let below = c.shorts-test.true in
    let same = c.if-not-visit_unwatched.ensures.done_same in
    let short = ap length c.if-not-visit_unwatched.ensures.grown.short in
    omega (arith, below, same, short, c.len.ensures)

pub returns : goal.returns
returns c =
    let past = c.shorts-test.false in
    let within = c.shorts.invariant.kept.done_within in
    record {
      kept = c.shorts.invariant.kept;
      grown = c.shorts.invariant.grown;
      conflict = tt;
      all = λ _. omega (arith, past, within, c.len.ensures);
    }

pub returns-then-not-visit_unwatched : goal.returns-then-not-visit_unwatched
returns-then-not-visit_unwatched c = record {
  kept = c.if-not-visit_unwatched.ensures.kept;
  grown = grows_trans _ _ _ c.shorts.invariant.grown c.if-not-visit_unwatched.ensures.grown;
  conflict = c.if-not-visit_unwatched.ensures.conflict;
  all = λ e. absurd (let bad = e in cc);
}
