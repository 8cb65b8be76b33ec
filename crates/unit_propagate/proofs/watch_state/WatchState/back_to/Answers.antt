use Rattle.std.proofs.Common.{◌<◌, length, arith, ap, ◌∙◌, get_or, refl}
use Rattle.unit_propagate.specs.States.{state_of, progress_at}
use Rattle.unit_propagate.proofs.Levels.{back_kept}
use Rattle.unit_propagate.proofs.watch_state.WatchState.back_to.Goals as goal

pub returns : goal.returns
returns c =
    let s = state_of c.args.self.now in
    let same = c.starts-starts.ensures.starts in
    let lt : c.args.level < length s.starts = omega (arith, c.if-level-starts.false, ap length same) in
    record {
      kept = back_kept s c.back_to.new.self.lits c.back_to.new.self.starts c.back_to.new.self.vars c.args.level
          (get_or c.starts-starts.result.now c.args.level 0) c.progress_in-mark.result c.requires.kept
          c.starts-starts.ensures.form.levels lt
          (ap (λ xs. get_or xs c.args.level 0) same) (c.progress_in-mark.ensures
          ∙ ap (λ ms. progress_at ms (get_or c.starts-starts.result.now c.args.level 0)) c.as_slice.ensures.value)
          c.back_to.ensures.lits c.back_to.ensures.starts c.back_to.ensures.vars;
      back = record {
        clauses = refl;
        pairs = refl;
        lits = c.back_to.ensures.lits;
        starts =
            c.back_to.ensures.starts;
        reasons = refl;
        vars = c.back_to.ensures.vars;
      };
    }

pub progress_in-mark-requires : goal.progress_in-mark-requires
progress_in-mark-requires c =
    let s = state_of c.args.self.now in
    let same = c.starts-starts.ensures.starts in
    let lt : c.args.level < length s.starts = omega (arith, c.if-level-starts.false, ap length same) in
    let within = c.starts-starts.ensures.form.levels.within c.args.level lt in
    let short = c.starts-starts.ensures.form.short in
    let long = c.requires.kept.marks.long in
    let progress = ap length c.as_slice.ensures.value in
    omega (arith, within, short, long, progress, ap (λ xs. get_or xs c.args.level 0) same)
