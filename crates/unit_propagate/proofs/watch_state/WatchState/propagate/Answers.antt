use Rattle.std.proofs.Common.{refl, sym, ◌∙◌, ap, length}
use Rattle.unit_propagate.specs.States.{state_of}
use Rattle.unit_propagate.proofs.Visiting.{grows_trans}
use Rattle.unit_propagate.proofs.Passing.{found_of}
use Rattle.unit_propagate.proofs.watch_state.WatchState.propagate.Goals as goal

pub returns-in-Some : goal.returns-in-Some
returns-in-Some c = record {
  kept = c.in-Some.ensures.kept;
  grown = c.in-Some.ensures.grown;
  answer =
      c.in-Some.ensures.conflict;
}

pub returns-in-None : goal.returns-in-None
returns-in-None c = record {
  kept = c.propagate_trail-conflict.ensures.kept;
  grown = grows_trans _ _ _ c.in-None.ensures.grown c.propagate_trail-conflict.ensures.grown;
  answer = found_of (state_of c.propagate_trail-conflict.new.self) c.propagate_trail-conflict.result
      c.propagate_trail-conflict.ensures.kept
      c.len-form.ensures.form.apart c.propagate_trail-conflict.ensures.conflict c.propagate_trail-conflict.ensures.all
      (c.propagate_trail-conflict.ensures.done_same
      ∙ (c.in-None.ensures.all refl ∙ sym (ap length c.propagate_trail-conflict.ensures.grown.short)));
}
