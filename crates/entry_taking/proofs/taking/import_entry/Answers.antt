use Rattle.std.proofs.Common.{refl, sym, subst, ◌∙◌}
use Rattle.std.proofs.lemmas.Bool.{false≢true}
use Rattle.oracle_face.specs.Growing.{NoSide}
use Rattle.session_log.specs.OwnSteps.{NamesAxiom}
use Rattle.entry_taking.proofs.Joining.{axiom_entry_came, hints_entry_came}
use Rattle.entry_taking.proofs.Naming.{named_grown}
use Rattle.entry_taking.proofs.taking.import_entry.Goals as goal

pub returns-in-Axiom-clause-comes : goal.returns-in-Axiom-clause-comes
returns-in-Axiom-clause-comes c =
    axiom_entry_came c.take_named.result c.args.assumption_based c.args.own c.args.entry.now c.in-Axiom.name
    c.as_slice-clause.result.now c.args.solver.now.log c.take_named.new.solver.log c.in-Axiom.is
    c.as_slice-clause.ensures
    c.take_named.ensures.comes

pub returns-in-Axiom-clause-named : goal.returns-in-Axiom-clause-named
returns-in-Axiom-clause-named c =
    named_grown NoSide c.look.new.self c.args.solver.now.log c.take_named.new.solver.log c.take_named.ensures.goes.grows
    c.in_ok-look.ensures.named

pub returns-in-Hints-clause-named : goal.returns-in-Hints-clause-named
returns-in-Hints-clause-named c =
    named_grown NoSide c.look.new.self c.args.solver.now.log c.take_derived.new.solver.log
    (c.take_derived.ensures.goes c.args.assumption_based).grows c.in_ok-look.ensures.named

pub returns-in-Hints-clause-goes : goal.returns-in-Hints-clause-goes
returns-in-Hints-clause-goes c = c.take_derived.ensures.goes c.args.assumption_based

pub returns-in-Hints-clause-comes : goal.returns-in-Hints-clause-comes
returns-in-Hints-clause-comes c =
    hints_entry_came c.take_derived.result c.args.assumption_based c.args.own c.args.entry.now c.in-Hints.hints
    c.as_slice.result.now c.args.solver.now.log c.take_derived.new.solver.log c.in-Hints.is
    c.as_slice.ensures c.take_derived.ensures.comes

pub returns-in-Axiom-clause-steps : goal.returns-in-Axiom-clause-steps
returns-in-Axiom-clause-steps c = λ f given same there.
    c.take_named.ensures.steps f c.args.own given same (record {
      entry = c.args.entry.now;
      there = there;
      shareable = c.requires.shareable;
      named = subst (NamesAxiom c.in-Axiom.name) (sym c.in-Axiom.is) refl;
    })

pub returns-in-Hints-clause-steps : goal.returns-in-Hints-clause-steps
returns-in-Hints-clause-steps c = λ f given same there.
    c.take_derived.ensures.steps f given there
    (λ known. false≢true (sym c.if-is_taken.false ∙ c.is_taken.ensures.1 known))
