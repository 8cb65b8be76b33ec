use Rattle.std.proofs.Common.{sym, subst}
use Rattle.unit_propagate.specs.States.{IsKept, state_of}
use Rattle.unit_propagate.proofs.Blocks.{begun_is, marked_is}
use Rattle.unit_propagate.proofs.Growing.{on_err}
use Rattle.unit_propagate.proofs.Levels.{kept_begun, kept_marked}
use Rattle.unit_propagate.proofs.watch_state.WatchState.begin_level.Goals as goal

pub returns : goal.returns
returns c =
    let s = state_of c.args.self.now in
    let t = c.begin_level.new.self in
    let is = begun_is s (state_of c.mark.new.self) t.lits t.starts t.vars c.mark.ensures c.begin_level.ensures.lits
    c.in_ok-begin_level.ensures.ok c.begin_level.ensures.vars in
    record {
      kept = subst IsKept (sym is) (kept_begun s c.requires c.len-form.ensures.form.short);
      ok = is;
      err = tt;
    }

pub returns-in_err-begin_level-clause-kept : goal.returns-in_err-begin_level-clause-kept
returns-in_err-begin_level-clause-kept c =
    let s = state_of c.args.self.now in
    let t = c.begin_level.new.self in
    let is = marked_is s (state_of c.mark.new.self) t.lits t.starts t.vars c.mark.ensures c.begin_level.ensures.lits
    c.in_err-begin_level.ensures.err c.begin_level.ensures.vars in
    subst IsKept (sym is) (kept_marked s c.requires c.len-form.ensures.form.short)

pub returns-in_err-begin_level-clause-err : goal.returns-in_err-begin_level-clause-err
returns-in_err-begin_level-clause-err c =
    let s = state_of c.args.self.now in
    let t = c.begin_level.new.self in
    on_err c.from_residual.result _ (marked_is s (state_of c.mark.new.self) t.lits t.starts t.vars c.mark.ensures
    c.begin_level.ensures.lits
    c.in_err-begin_level.ensures.err c.begin_level.ensures.vars)
