use Rattle.std.proofs.Common.{arith, refl, ◌∙◌}
use Rattle.unit_propagate.proofs.Visiting.{grows_same, grows_trans}
use Rattle.unit_propagate.proofs.watch_state.WatchState.propagate_trail.Goals as goal

pub lits-init : goal.lits-init
lits-init c = record { kept = c.requires.kept; grown = grows_same _; done_same = refl }

pub lits-preserved : goal.lits-preserved
lits-preserved c = record {
  kept = c.in-None.ensures.kept;
  grown = grows_trans _ _ _ c.lits.invariant.grown c.in-None.ensures.grown;
  done_same = c.in-None.ensures.done_same ∙ c.lits.invariant.done_same;
}

pub lits-smaller : goal.lits-smaller
lits-smaller c =
    let below = c.lits-test.true in
    let count = c.len.ensures.length in
    let short = c.len.ensures.form.short in
    let vars = c.in-None.ensures.grown.vars in
    let next = c.in-None.ensures.next refl in
    omega (arith, below, count, short, vars, next)

pub returns : goal.returns
returns c =
    let past = c.lits-test.false in
    let count = c.len.ensures.length in
    let within = c.lits.invariant.kept.head_within in
    record {
      kept = c.lits.invariant.kept;
      grown = c.lits.invariant.grown;
      conflict = tt;
      all = λ _. omega (arith, past, count, within);
      done_same = c.lits.invariant.done_same;
    }

pub returns-in-Some : goal.returns-in-Some
returns-in-Some c = record {
  kept = c.in-Some.ensures.kept;
  grown = grows_trans _ _ _ c.lits.invariant.grown c.in-Some.ensures.grown;
  conflict = c.in-Some.ensures.conflict;
  all = λ e. absurd (let bad = e in cc);
  done_same = c.in-Some.ensures.done_same ∙ c.lits.invariant.done_same;
}
