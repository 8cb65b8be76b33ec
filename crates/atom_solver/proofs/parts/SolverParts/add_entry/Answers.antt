use Rattle.std.proofs.Common.{◌≡◌, ◌++◌, ◌∷◌, [], ◌<◌, length, rules, ap, subst, ◌∙◌, ⊎_elim, arith}
use Rattle.std.proofs.lemmas.Bool.{cases_lt}
use Rattle.oracle_face.specs.declared.step_source.StepSource.TheVariants.{Entry}
use Rattle.hinted_log.specs.declared.fault.LogFault.TheVariants.{Memory}
use Rattle.atom_solver.specs.Inner.{IsFilled}
use Rattle.atom_solver.proofs.Giving.{filled_state, filled_whole, ok_not_full, refused}
use Rattle.atom_solver.proofs.EntryLemmas.{entry_imports, entry_whole, refused_by}
use Rattle.atom_solver.proofs.parts.SolverParts.add_entry.Goals as goal

pub returns-in-Ok-clause-whole : goal.returns-in-Ok-clause-whole
returns-in-Ok-clause-whole c =
    let p = c.args.self.now in
    let pushed : c.push.new.self.items ≡ c.fill.new.origins.items ++ Entry c.args.name ∷ [] = search rules in
    let count : c.len-steps.result ≡ length p.solver.log.steps = rw c.log.ensures.log at c.len-steps.ensures.steps in
    let filled = subst (IsFilled p.origins.items c.fill.new.origins.items) count c.fill.ensures.filled in
    entry_whole p.table p.solver c.add.new.self c.args.clause c.args.hints _ c.in-Ok.ensures.ok p.origins.items
    c.fill.new.origins.items c.push.new.self.items c.args.name filled (c.in_ok-fill.ensures.ok ∙ count) pushed
    c.requires.room c.requires.whole

pub returns-in-Ok-clause-imported : goal.returns-in-Ok-clause-imported
returns-in-Ok-clause-imported c =
    let p = c.args.self.now in
    let pushed : c.push.new.self.items ≡ c.fill.new.origins.items ++ Entry c.args.name ∷ [] = search rules in
    let count : c.len-steps.result ≡ length p.solver.log.steps = rw c.log.ensures.log at c.len-steps.ensures.steps in
    let filled = subst (IsFilled p.origins.items c.fill.new.origins.items) count c.fill.ensures.filled in
    let within = c.log.ensures.form.log_form.within in
    let room : length p.solver.log.steps < p.solver.log.limit =
    ⊎_elim (λ lt. lt) (λ ge. absurd (ok_not_full _ (c.in-Ok.ensures.full.1 (omega arith))))
    (cases_lt (length p.solver.log.steps) p.solver.log.limit) in
    entry_imports p.table p.solver c.add.new.self c.args.clause c.args.hints _ c.in-Ok.ensures.ok p.origins.items
    c.fill.new.origins.items c.push.new.self.items c.args.name filled (c.in_ok-fill.ensures.ok ∙ count) pushed
    p.sides.kept p.pending c.len-different.ensures.different c.requires.whole c.requires.room room

pub returns-in-Err-Memory-clause-whole : goal.returns-in-Err-Memory-clause-whole
returns-in-Err-Memory-clause-whole c =
    let p = c.args.self.now in
    let count : c.len-steps.result ≡ length p.solver.log.steps = rw c.log.ensures.log at c.len-steps.ensures.steps in
    let filled = subst (IsFilled p.origins.items c.fill.new.origins.items) count c.fill.ensures.filled in
    rw c.in-Err-Memory.ensures.refused (filled_whole p.table p.solver p.origins.items c.fill.new.origins.items
    c.requires.whole filled)

pub returns-in-Err-Memory-clause-err : goal.returns-in-Err-Memory-clause-err
returns-in-Err-Memory-clause-err c =
    let p = c.args.self.now in
    let count : c.len-steps.result ≡ length p.solver.log.steps = rw c.log.ensures.log at c.len-steps.ensures.steps in
    let filled = subst (IsFilled p.origins.items c.fill.new.origins.items) count c.fill.ensures.filled in
    rw c.in-Err-Memory.ensures.refused (filled_state p.table p.solver p.origins.items c.fill.new.origins.items
    p.sides.kept p.pending filled)

pub returns-in-Err-LogFull : goal.returns-in-Err-LogFull
returns-in-Err-LogFull c =
    let p = c.args.self.now in
    let fault = c.in-Err-LogFull.field-0 in
    let count : c.len-steps.result ≡ length p.solver.log.steps = rw c.log.ensures.log at c.len-steps.ensures.steps in
    let filled = subst (IsFilled p.origins.items c.fill.new.origins.items) count c.fill.ensures.filled in
    let not_memory : fault ≡ Memory → ⊥ = search rules in
    record {
      whole = rw c.in-Err-LogFull.ensures.refused (filled_whole p.table p.solver p.origins.items
          c.fill.new.origins.items c.requires.whole filled);
      imported = (
        rw c.in-Err-LogFull.ensures.refused (filled_state p.table p.solver p.origins.items c.fill.new.origins.items
            p.sides.kept p.pending filled),
        refused_by fault p.table p.solver p.origins.items p.sides.kept c.args.clause c.args.hints
            c.len-different.ensures.different c.requires.whole c.requires.room not_memory
            (λ e. c.in-Err-LogFull.ensures.full.0 (ap refused e))
            (λ place e. c.in-Err-LogFull.ensures.rejected place (ap refused e)),
      );
      err = tt;
    }
