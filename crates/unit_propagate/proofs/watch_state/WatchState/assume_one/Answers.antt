use Rattle.std.proofs.Common.{arith}
use Rattle.unit_propagate.specs.States.{state_of}
use Rattle.unit_propagate.proofs.Blocks.{assumed_kept, assumes_new, assumes_same, true_of}
use Rattle.unit_propagate.proofs.watch_state.WatchState.assume_one.Goals as goal

pub imply-requires : goal.imply-requires
imply-requires c = record {
  within = c.requires.known;
  unset = c.in-Unset.ensures.value;
  long =
      c.requires.kept.reasons_long;
}

pub returns-in-Unset : goal.returns-in-Unset
returns-in-Unset c =
    let s = state_of c.args.self.now in
    let before = c.imply.ensures.before in
    let long = c.requires.kept.reasons_long in
    record {
      kept = assumed_kept s (state_of c.imply.new.self) c.args.lit c.requires.kept c.len-form.ensures.form.levels before
          c.imply.ensures.state;
      assumed = assumes_new s (state_of c.imply.new.self) c.args.lit (omega arith) c.imply.ensures.state;
    }

pub returns-in_default : goal.returns-in_default
returns-in_default c =
    let s = state_of c.args.self.now in
    record {
      kept = c.requires.kept;
      assumed = assumes_same s c.args.lit (true_of s.lits c.args.lit c.value.result c.value.ensures.value
          c.in_default.not-Unset c.requires.not_false);
    }
