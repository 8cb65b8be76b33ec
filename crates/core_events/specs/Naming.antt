-- The steps that names call.
use Rattle.std.specs.Prelude.{◌≡◌, ◌≤◌, ℕ, false, List, Option, Some, None}
use Rattle.semantics.specs.Frameworks.{Framework}
use Rattle.meaning_atoms.specs.declared.axiom.AxiomName.{AxiomName}
use Rattle.certificate_claims.specs.Refutations.{IsAxiomOf}
use Rattle.oracle_face.specs.declared.entry.Entry.{Entry}
use Rattle.oracle_face.specs.declared.entry.HintName.{HintName}
use Rattle.oracle_face.specs.Logs.{LogStep, OracleLog, IsNumberOf, by_axiom, is_loop, step_at}
use Rattle.session_log.specs.Imports.{IsCalled, MayImport, StandsFor, StandForSteps}
use Rattle.core_machine.specs.Steps.{TakesByOrigin}

-- the name calls the step of the number
pub record IsCalledAt (own : ℕ) (steps : List LogStep) (name : HintName) (number : ℕ) : Type 0 where
  pub named : IsNumberOf steps number
  pub called : IsCalled own name number (step_at steps number)

-- it is the first that the name calls
pub record IsFirstCalled (own : ℕ) (steps : List LogStep) (name : HintName) (number : ℕ) : Type 0 where
  pub at : IsCalledAt own steps name number
  pub first : (other : ℕ) → IsCalledAt own steps name other → number ≤ other

-- the first step that the name calls, or that there is none
abbrev pub CallsFirst : ℕ → List LogStep → HintName → Option ℕ → Type 0
CallsFirst own steps name (Some number) = IsFirstCalled own steps name number
CallsFirst own steps name None = (number : ℕ) → IsCalledAt own steps name number → ⊥

-- the step that the name stands for, or that there is none
abbrev pub StandsForSome : ℕ → List LogStep → HintName → Option ℕ → Type 0
StandsForSome own steps name (Some number) = StandsFor own steps name number
StandsForSome own steps name None = (number : ℕ) → StandsFor own steps name number → ⊥

-- the steps that the names stand for, or that one of them stands for none
abbrev pub StandForSome : ℕ → List LogStep → List HintName → Option (List ℕ) → Type 0
StandForSome own steps names (Some hints) = StandForSteps own steps names hints
StandForSome own steps names None = (hints : List ℕ) → StandForSteps own steps names hints → ⊥

-- the axiom may come from an entry: it is of the framework's kind and no loop clause, and no step is it yet
pub record MayCome (f : Framework) (steps : List LogStep) (name : AxiomName) : Type 0 where
  pub of_kind : IsAxiomOf f name
  pub no_loop : is_loop name ≡ false
  pub once : (number : ℕ) → IsNumberOf steps number → (step_at steps number).source ≡ by_axiom name → ⊥

-- the entry may come into the log, and does
pub record Imports (f : Framework) (own : ℕ) (entry : Entry) (old new : OracleLog) : Type 0 where
  pub may : MayImport f own old entry
  pub takes : TakesByOrigin own entry entry.origin old new
