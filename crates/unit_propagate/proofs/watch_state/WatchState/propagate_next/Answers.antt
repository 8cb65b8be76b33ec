use Rattle.std.proofs.Common.{◌<◌, ◌+◌, length, arith, subst, sym, ap}
use Rattle.clause_watches.specs.Arenas.{blank}
use Rattle.unit_propagate.specs.States.{state_of}
use Rattle.clause_watches.proofs.Fronts.{packed_low}
use Rattle.unit_propagate.proofs.Passing.{next_there, next_is, next_var, pass_kept}
use Rattle.unit_propagate.proofs.Visiting.{grows_head}
use Rattle.unit_propagate.proofs.watch_state.WatchState.propagate_next.Goals as goal

pub code_of-requires : goal.code_of-requires
code_of-requires c =
    let s = state_of c.args.self.now in
    let low : c.not-falsified.result.var < s.vars = next_var s.lits c.lits.result.now s.head s.vars blank
    c.not-falsified.result c.requires.more c.lits.ensures.lits c.lits.ensures.form.within c.not-falsified.ensures in
    let long = c.requires.kept.stored.lists_long in
    let fits = c.len-lists.type_inv in
    omega (arith, low, long, fits, c.len-lists.ensures)

pub visit-requires : goal.visit-requires
visit-requires c =
    let s = state_of c.args.self.now in
    let low : c.not-falsified.result.var < s.vars = next_var s.lits c.lits.result.now s.head s.vars blank
    c.not-falsified.result c.requires.more c.lits.ensures.lits c.lits.ensures.form.within c.not-falsified.ensures in
    let long = c.requires.kept.stored.lists_long in
    let code = packed_low c.not-falsified.result s.vars low in
    record {
      kept = c.requires.kept;
      code_is = c.code_of.ensures;
      inside = subst (λ k. k < length s.lists) (sym c.code_of.ensures) (omega arith);
      falsified_now = next_there s.lits c.lits.result.now s.head blank c.not-falsified.result c.requires.more
          c.lits.ensures.lits c.not-falsified.ensures;
    }

pub returns-in-Some : goal.returns-in-Some
returns-in-Some c = record {
  kept = c.in-Some.ensures.kept;
  grown = c.in-Some.ensures.grown;
  conflict = c.in-Some.ensures.all;
  next = λ e. absurd (let bad = e in cc);
  done_same = c.in-Some.ensures.done_same;
}

pub returns-in-None : goal.returns-in-None
returns-in-None c =
    let s = state_of c.args.self.now in
    record {
      kept = pass_kept s (state_of c.visit.new.self) blank c.not-falsified.result c.in-None.ensures.kept
          c.in-None.ensures.grown c.in-None.ensures.head
          c.requires.more (next_is s.lits c.lits.result.now s.head blank c.not-falsified.result c.lits.ensures.lits
          c.not-falsified.ensures) c.in-None.ensures.all;
      grown = grows_head s (state_of c.visit.new.self) (c.visit.new.self.head + 1) c.in-None.ensures.grown;
      conflict = tt;
      next = λ _. ap (λ n. n + 1) c.in-None.ensures.head;
      done_same = c.in-None.ensures.done_same;
    }
