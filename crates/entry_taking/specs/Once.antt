-- How an axiom comes into a log that has it once at most.
use Rattle.std.specs.Prelude.{◌≡◌, ◌⊎◌, ℕ, false, List}
use Rattle.meaning_atoms.specs.declared.axiom.AxiomName.{AxiomName}
use Rattle.oracle_face.specs.Logs.{OracleLog, LogStep, IsNumberOf, by_axiom, step_at}
use Rattle.atom_solver.specs.States.{AddsAxiom, AtomState}

-- a step of the log is the axiom, and searches use its clause
pub record HasAxiomStep (log : OracleLog) (name : AxiomName) : Type 0 where
  pub number : ℕ
  pub named : IsNumberOf log.steps number
  pub source : (step_at log.steps number).source ≡ by_axiom name
  pub kept : (step_at log.steps number).closing ≡ false

-- no step is the axiom
abbrev pub HasNoStepOf : List LogStep → AxiomName → Type 0
HasNoStepOf steps name =
    (number : ℕ) → IsNumberOf steps number → (step_at steps number).source ≡ by_axiom name → ⊥

-- the axiom comes where no step is it, and is in use; else a step is it already, and nothing changes
abbrev pub ComesOnce : AxiomName → AtomState → AtomState → Type 0
ComesOnce name old new =
    (HasAxiomStep old.log name × (new ≡ old)) ⊎ (HasNoStepOf old.log.steps name × AddsAxiom name old new)
