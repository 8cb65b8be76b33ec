use Rattle.std.proofs.Common.{◌≡◌, rules, true, Err, subst}
use Rattle.std.specs.Prelude.{None, OnOk}
use Rattle.entry_taking.specs.declared.names.StepName.TheVariants.{Axiom}
use Rattle.entry_taking.specs.Names.{told_of}
use Rattle.meaning_atoms.specs.declared.axiom.AxiomName.{AxiomName}
use Rattle.plain_lits.specs.declared.halt.Halt.TheVariants.{Memory}
use Rattle.atom_solver.specs.States.{AddsAxiom}
use Rattle.entry_taking.proofs.Joining.{axiom_came, axiom_went}
use Rattle.entry_taking.proofs.Stepping.{axiom_step}
use Rattle.entry_taking.proofs.taking.take_axiom.Goals as goal

pub returns-in-Ok-clause-goes : goal.returns-in-Ok-clause-goes
returns-in-Ok-clause-goes c =
    let so : c.in_ok-is_of_axiom.is_of_axiom ≡ true = search rules in
    let old = c.args.solver.now in
    let new = c.take_axiom.new.self in
    axiom_went c.take_axiom.result c.args.assumption_based c.args.name.now old new c.requires.may
    (c.in_ok-is_of_axiom.ensures.0 so).0
    (subst (λ (n : AxiomName). OnOk c.take_axiom.result (AddsAxiom n old new)) c.in_ok-taken.ensures
    c.take_axiom.ensures.ok) c.take_axiom.ensures.err

pub returns-in-Ok-clause-comes : goal.returns-in-Ok-clause-comes
returns-in-Ok-clause-comes c = λ f own.
    let so : c.in_ok-is_of_axiom.is_of_axiom ≡ true = search rules in
    let old = c.args.solver.now in
    let new = c.take_axiom.new.self in
    let not_memory : c.take_axiom.result ≡ Err Memory → ⊥ = search rules in
    axiom_came c.take_axiom.result f own c.args.name.now c.args.clause.now old new
    (c.in_ok-is_of_axiom.ensures.0 so)
    (subst (λ (n : AxiomName). OnOk c.take_axiom.result (AddsAxiom n old new)) c.in_ok-taken.ensures
    c.take_axiom.ensures.ok) c.take_axiom.ensures.full.0 not_memory
    c.take_axiom.ensures.unspent

pub returns-in-Ok-clause-steps : goal.returns-in-Ok-clause-steps
returns-in-Ok-clause-steps c = λ f own given same by.
    let so : c.in_ok-is_of_axiom.is_of_axiom ≡ true = search rules in
    let none : told_of c.args.names.now (Axiom c.args.name.now) ≡ None = search rules in
    let old = c.args.solver.now in
    let new = c.take_axiom.new.self in
    axiom_step c.take_axiom.result f own given c.args.assumption_based c.args.name.now c.args.names.now old new same
    c.requires.may (c.in_ok-is_of_axiom.ensures.0 so).0 by c.requires.looked none
    (subst (λ (n : AxiomName). OnOk c.take_axiom.result (AddsAxiom n old new)) c.in_ok-taken.ensures
    c.take_axiom.ensures.ok) c.take_axiom.ensures.err
