use Rattle.std.proofs.Common.{arith, subst, refl}
use Rattle.unit_propagate.specs.States.{state_of}
use Rattle.unit_propagate.specs.Steps.{LowersProgress}
use Rattle.unit_propagate.proofs.Growing.{kept_lowered}
use Rattle.unit_propagate.proofs.watch_state.WatchState.lower.Goals as goal

pub lower_progress-requires : goal.lower_progress-requires
lower_progress-requires c =
    let short = c.len-form.ensures.form.short in
    let long = c.requires.kept.marks.long in
    rw c.starts.ensures.starts (record {
      within = λ k lt. omega (arith, c.len-form.ensures.form.levels.within k lt);
      levels = c.len-form.ensures.form.levels.rise;
      heads = c.requires.kept.marks.head;
    })

pub returns : goal.returns
returns c =
    let s = state_of c.args.self.now in
    let lowered : LowersProgress s.progress c.lower_progress.new.progress.items s.starts 0 c.args.index =
    subst (λ xs. LowersProgress s.progress c.lower_progress.new.progress.items xs 0 c.args.index)
    c.starts.ensures.starts
    c.lower_progress.ensures in
    record {
      kept = kept_lowered s c.lower_progress.new.progress.items c.smaller-self.result c.args.index c.requires.kept
          lowered
          c.smaller-self.ensures.first;
      low = record {
        rest = refl;
        long = lowered.long;
        head = c.smaller-self.ensures.first;
        head_low = c.smaller-self.ensures.second;
        progress = lowered.heads;
        dones = lowered.dones;
        marks_low = λ k lt. lowered.low k (omega arith) lt;
      };
    }
