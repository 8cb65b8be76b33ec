use Rattle.std.proofs.Common.{◌≡◌, ◌∙◌, ℕ, rules, ap, refl, subst, sym}
use Rattle.std.specs.Prelude.{IfOk}
use Rattle.meaning_atoms.specs.declared.axiom.AxiomName.{AxiomName}
use Rattle.certificate_claims.specs.declared.certificate.Step.TheVariants.{Axiom, Side}
use Rattle.oracle_face.specs.Logs.{hints_of, step_at}
use Rattle.oracle_face.specs.declared.step_source.StepSource.TheVariants.{Axiom as OfAxiom, Side as OfSide}
use Rattle.certificate_making.specs.Origins.{IsOrigin}
use Rattle.certificate_making.specs.Trimmed.{IsMovedStep, position_of}
use Rattle.certificate_making.proofs.MovingLemmas.{derived_source}
use Rattle.certificate_making.proofs.renumbering.moved_step.Goals as goal

pub returns-in-Axiom : goal.returns-in-Axiom
returns-in-Axiom g c =
    let step = step_at (g.L.ReadLog.log c.args.log.now).steps c.args.step in
    let from = subst (IsOrigin step.source) c.in-Axiom.is c.in_ok-name.ensures in
    subst (λ source. IsMovedStep c.args.positions.now c.args.numbers.now source step.clause (Axiom c.in-Axiom.name))
    (sym from) refl

pub returns-in-Side : goal.returns-in-Side
returns-in-Side g c =
    let step = step_at (g.L.ReadLog.log c.args.log.now).steps c.args.step in
    let from = subst (IsOrigin step.source) c.in-Side.is c.in_ok-name.ensures in
    subst (λ source. IsMovedStep c.args.positions.now c.args.numbers.now source step.clause (Side c.position.result))
    (sym from) (ap Side (c.position.ensures ∙ ap (position_of c.args.positions.now) c.number.ensures))

pub returns-in-Entry : goal.returns-in-Entry
returns-in-Entry g c =
    let step = step_at (g.L.ReadLog.log c.args.log.now).steps c.args.step in
    let no_axiom : (name : AxiomName) → c.in_ok-name.field-0 ≡ OfAxiom name → ⊥ = search rules in
    let no_side : (n : ℕ) → c.in_ok-name.field-0 ≡ OfSide n → ⊥ = search rules in
    subst (λ source. IfOk c.moved_derived.result (IsMovedStep c.args.positions.now c.args.numbers.now source step.clause))
    (sym (derived_source step.source c.in_ok-name.field-0 no_axiom no_side c.in_ok-name.ensures))
    c.moved_derived.ensures
