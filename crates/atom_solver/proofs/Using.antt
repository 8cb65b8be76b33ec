-- The axioms of a log that a solver's log stands for are in use.
use Rattle.std.proofs.Common.{◌≡◌, ℕ, ◌-◌, List, length, get_or, ap, sym, ◌∙◌}
use Rattle.std.specs.Prelude.{not, true}
use Rattle.hinted_log.specs.Logs as hinted
use Rattle.sat_core.specs.Solving.{SolverState}
use Rattle.meaning_atoms.specs.declared.atom.Atom.{Atom}
use Rattle.meaning_atoms.specs.declared.axiom.AxiomName.{AxiomName}
use Rattle.oracle_face.specs.Logs.{LogStep, SideClause, by_axiom, IsNumberOf, step_at}
use Rattle.oracle_face.specs.declared.step_source.StepSource.{StepSource}
use Rattle.oracle_face.specs.declared.step_source.StepSource.TheVariants.{Axiom, Side, Entry, Hints}
use Rattle.atom_solver.specs.Lifted.{IsLifting, lifted_at, listed, log_over}
use Rattle.oracle_face.specs.StepSources.{source_of}
use Rattle.atom_solver.specs.States.{UsesAxioms}
use Rattle.atom_solver.proofs.Lifting.{step_lifted}
use Rattle.atom_solver.proofs.Reading.{step_named}

axiom_origin : (origin : StepSource) (hints : List ℕ) (name : AxiomName) → source_of origin hints ≡ by_axiom name
    → origin ≡ Axiom name
axiom_origin (Axiom other) hints name is = let same : other ≡ name = cc in ap Axiom same
axiom_origin (Side n) hints name is = absurd (cc)
axiom_origin (Entry entry) hints name is = absurd (cc)
axiom_origin Hints hints name is = absurd (cc)

axiom_kept : (atoms : List Atom) (s : SolverState) (origins : List StepSource) (number : ℕ) (name : AxiomName)
    → IsLifting atoms s origins → IsNumberOf (listed (lifted_at atoms s origins) (length s.log.steps)) number
    → (step_at (listed (lifted_at atoms s origins) (length s.log.steps)) number).source ≡ by_axiom name
    → (step_at (listed (lifted_at atoms s origins) (length s.log.steps)) number).closing ≡ not true
axiom_kept atoms s origins number name whole is source =
    let step = step_named atoms s origins number is in
    let here = step_lifted atoms s origins (length s.log.steps) number step.from_one step.within in
    let origin = axiom_origin (get_or origins (number - 1) Hints)
    (get_or s.log.steps (number - 1) hinted.no_step).hints name
    (sym (ap (λ (x : LogStep). x.source) here) ∙ source) in
    ap (λ (x : LogStep). x.closing) here ∙ ap not (whole.used (number - 1) name origin)

pub uses_axioms : (atoms : List Atom) (s : SolverState) (origins : List StepSource) (sides : List SideClause)
    → IsLifting atoms s origins → UsesAxioms (log_over atoms s origins sides)
uses_axioms atoms s origins sides whole =
    record { kept = λ number name is source. axiom_kept atoms s origins number name whole is source }
