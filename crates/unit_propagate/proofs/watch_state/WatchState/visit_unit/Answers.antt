use Rattle.std.proofs.Common.{refl}
use Rattle.unit_propagate.specs.States.{state_of}
use Rattle.unit_propagate.proofs.Visiting.{grows_same, grown_literal, literal_kept, literal_true}
use Rattle.unit_propagate.proofs.Passing.{short_fails, short_implied}
use Rattle.unit_propagate.proofs.watch_state.WatchState.visit_unit.Goals as goal

pub imply-requires : goal.imply-requires
imply-requires c = record {
  within = c.requires.kept.stored.room c.args.id c.args.lit c.requires.short.named c.requires.there;
  unset = c.in-Unset.ensures.value;
  long = c.requires.kept.reasons_long;
}

pub returns-in-True : goal.returns-in-True
returns-in-True c = record {
  kept = c.requires.kept;
  grown = grows_same _;
  conflict = tt;
  holds = record { some = (c.args.lit, c.requires.there, c.in-True.ensures.value.0) };
  head = refl;
  done_same = refl;
}

pub returns-in-False : goal.returns-in-False
returns-in-False c = record {
  kept = c.requires.kept;
  grown = grows_same _;
  conflict = short_fails (state_of c.args.self.now) c.args.id c.args.lit c.requires.kept c.requires.short
      c.requires.there c.in-False.ensures.value.0;
  holds = tt;
  head = refl;
  done_same = refl;
}

pub returns-in-Unset-clause-kept : goal.returns-in-Unset-clause-kept
returns-in-Unset-clause-kept c =
    let s = state_of c.args.self.now in
    literal_kept s (state_of c.imply.new.self) c.args.lit c.args.id c.requires.kept
    (short_implied s c.args.id c.args.lit c.requires.kept c.requires.short c.requires.there)
    c.len-form.ensures.form.levels
    c.imply.ensures.before c.imply.ensures.state

pub returns-in-Unset-clause-grown : goal.returns-in-Unset-clause-grown
returns-in-Unset-clause-grown c =
    grown_literal (state_of c.args.self.now) (state_of c.imply.new.self) c.args.lit c.args.id c.requires.kept
    c.requires.short.named
    c.imply.ensures.before c.imply.ensures.state

pub returns-in-Unset-clause-holds : goal.returns-in-Unset-clause-holds
returns-in-Unset-clause-holds c =
    literal_true (state_of c.args.self.now) (state_of c.imply.new.self) c.args.lit c.args.id c.requires.there
    c.imply.ensures.state
