-- What contracts see of a solver over atoms, and what it leaves where an axiom comes.
use Rattle.std.specs.Prelude.{◌≡◌, ℕ, false, List, [], Option, None, Some}
use Rattle.semantics.specs.Frameworks.{Framework}
use Rattle.meaning_atoms.specs.declared.atom.AtomLit.{AtomLit}
use Rattle.meaning_atoms.specs.declared.axiom.AxiomName.{AxiomName}
use Rattle.oracle_face.specs.declared.face.Pending.{Pending}
use Rattle.oracle_face.specs.declared.face.Pending.TheVariants.{Loop}
use Rattle.oracle_face.specs.Logs.{OracleLog, IsLog, IsNumberOf, IsSameClause, by_axiom, step_at}
use Rattle.session_log.specs.Guards.{IsGuarded}
use Rattle.session_log.specs.Steps.{TakesAxiom, TakesSide}

-- the log, and the clause that was in hand when the last budget was spent
pub record AtomState : Type 0 where
  pub log : OracleLog
  pub pending : Option Pending

-- a log without steps and side clauses
abbrev pub empty_log : ℕ → OracleLog
empty_log limit = record { limit = limit; steps = []; sides = [] }

abbrev pub empty_state : ℕ → AtomState
empty_state limit = record { log = empty_log limit; pending = None }

-- a log beside a framework, with its guards
pub record IsGuardedLog (f : Framework) (log : OracleLog) : Type 0 where
  pub form : IsLog f log
  pub guards : IsGuarded log

-- where the one is a guarded log beside a framework, the other is one too
abbrev pub StaysLog : OracleLog → OracleLog → Type 0
StaysLog old new = (f : Framework) → IsGuardedLog f old → IsGuardedLog f new

-- the log has one step more, which is this axiom and in use
pub record AddsAxiom (name : AxiomName) (old new : AtomState) : Type 0 where
  pub clause : List AtomLit
  pub takes : TakesAxiom name clause old.log new.log
  pub pending_same : new.pending ≡ old.pending

-- a side clause with these literals comes, made from this set, where no other has them
pub record TakesSideOf (side : List AtomLit) (from : List ℕ) (old new : OracleLog) : Type 0 where
  pub literals : List AtomLit
  pub clause : List AtomLit
  pub same : IsSameClause literals side
  pub takes : TakesSide literals from clause old new

-- no loop clause is in hand
abbrev pub IsNoLoop : Option Pending → Type 0
IsNoLoop (Some (Loop name)) = ⊥
IsNoLoop _ = Unit {0}

-- searches use the clause of each step that is an axiom
pub record UsesAxioms (log : OracleLog) : Type 0 where
  pub kept : (number : ℕ) (name : AxiomName) → IsNumberOf log.steps number
      → (step_at log.steps number).source ≡ by_axiom name → (step_at log.steps number).closing ≡ false
