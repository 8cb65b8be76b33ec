-- The events that change one log alone.
use Rattle.std.specs.Prelude.{◌≡◌, ℕ, List}
use Rattle.meaning_atoms.specs.declared.atom.AtomLit.{AtomLit}
use Rattle.meaning_atoms.specs.declared.axiom.AxiomName.{AxiomName}
use Rattle.oracle_face.specs.Logs.{OracleLog, IsNumberOf, by_axiom, step_at}
use Rattle.session_log.specs.Steps.{TakesAxiom, TakesSide}

-- an axiom comes that no step is yet
pub record TakesOnce (name : AxiomName) (clause : List AtomLit) (old new : OracleLog) : Type 0 where
  pub once : (number : ℕ) → IsNumberOf old.steps number → (step_at old.steps number).source ≡ by_axiom name → ⊥
  pub takes : TakesAxiom name clause old new

-- a side clause comes with its step
pub record KeepsSide (literals : List AtomLit) (set : List ℕ) (old new : OracleLog) : Type 0 where
  pub clause : List AtomLit
  pub takes : TakesSide literals set clause old new
