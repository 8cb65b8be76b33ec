use Rattle.std.proofs.Common.{ap, subst, sym, length, arith}
use Rattle.plain_lits.specs.declared.value.Value.TheVariants.{Unset}
use Rattle.plain_lits.specs.Values.{IsValueIn}
use Rattle.unit_propagate.specs.States.{State, state_of}
use Rattle.unit_propagate.proofs.Levels.{decided_kept, decided_is}
use Rattle.unit_propagate.proofs.watch_state.WatchState.decide.Goals as goal

pub begin_with-requires : goal.begin_with-requires
begin_with-requires c =
    let vars = ap (λ (s : State). s.vars) c.mark.ensures in
    let reasons = ap (λ (s : State). length s.reasons) c.mark.ensures in
    let within = c.requires.within in
    let long = c.requires.kept.reasons_long in
    record {
      within = omega (arith, vars, within);
      unset = subst (λ xs. IsValueIn xs c.args.lit Unset) (sym (ap (λ (s : State). s.lits) c.mark.ensures))
          c.requires.unset;
      long = omega (arith, vars, reasons, long);
    }

pub returns : goal.returns
returns c =
    let s = state_of c.args.self.now in
    let vars = ap (λ (s : State). s.vars) c.mark.ensures in
    let count = ap (λ (s : State). length s.lits) c.mark.ensures in
    let before = c.begin_with.ensures.before in
    record {
      kept = decided_kept s (state_of c.mark.new.self) (state_of c.begin_with.new.self) c.args.lit c.requires.kept
          c.len-form.ensures.form.levels
          (omega (arith, vars, count, before)) c.mark.ensures c.begin_with.ensures.state;
      decided = decided_is s (state_of c.mark.new.self) (state_of c.begin_with.new.self) c.args.lit c.mark.ensures
          c.begin_with.ensures.state;
    }
