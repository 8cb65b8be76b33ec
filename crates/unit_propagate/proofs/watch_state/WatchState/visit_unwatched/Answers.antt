use Rattle.std.proofs.Common.{refl, subst, sym, ◌∙◌}
use Rattle.std.specs.Prelude.{Contains}
use Rattle.unit_propagate.specs.States.{state_of}
use Rattle.unit_propagate.proofs.Visiting.{grows_same}
use Rattle.unit_propagate.proofs.Passing.{empty_fails}
use Rattle.unit_propagate.proofs.watch_state.WatchState.visit_unwatched.Goals as goal

pub returns-in-None : goal.returns-in-None
returns-in-None c = record {
  kept = c.requires.kept;
  grown = grows_same _;
  conflict = empty_fails (state_of c.args.self.now) c.args.id c.requires.short (sym c.clause.ensures
      ∙ c.in-None.ensures);
  holds = tt;
  head = refl;
  done_same = refl;
}

pub visit_unit-requires : goal.visit_unit-requires
visit_unit-requires c = record {
  kept = c.requires.kept;
  short = c.requires.short;
  there = subst (λ xs. Contains xs c.in-Some.lit) c.clause.ensures c.in-Some.ensures;
}
