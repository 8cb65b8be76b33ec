-- By what steps the log of a session goes on: an axiom comes, a clause is derived, a side clause is kept, or an entry of
-- another session that a trade gave is taken in.
use Rattle.std.specs.Prelude.{◌≡◌, ◌⊎◌, ℕ, Bool, true, false, List, Contains}
use Rattle.semantics.specs.Frameworks.{Framework}
use Rattle.meaning_atoms.specs.declared.atom.AtomLit.{AtomLit}
use Rattle.meaning_atoms.specs.declared.axiom.AxiomName.{AxiomName}
use Rattle.certificate_claims.specs.Refutations.{IsAxiomOf, axiom_clause}
use Rattle.oracle_face.specs.declared.entry.Entry.{Entry}
use Rattle.oracle_face.specs.declared.entry.EntryOrigin.{EntryOrigin}
use Rattle.oracle_face.specs.declared.entry.EntryOrigin.TheVariants.{Axiom as OfAxiom, Hints}
use Rattle.oracle_face.specs.declared.entry.HintName.{HintName}
use Rattle.oracle_face.specs.declared.entry.HintName.TheVariants.{Axiom}
use Rattle.oracle_face.specs.Entries.{IsShareable}
use Rattle.oracle_face.specs.Logs.{OracleLog, IsNew, IsNumberOf, by_axiom, is_loop, step_at, working}
use Rattle.oracle_face.specs.Needed.{IsNeeded}
use Rattle.session_log.specs.Steps.{LearnsClause, TakesAxiom, TakesSide}
use Rattle.session_log.specs.Imports.{MayImport, TakesEntry}

-- ---- axioms

-- the origin names the axiom: it is the axiom, or one of its hints is
abbrev pub NamesAxiom : AxiomName → EntryOrigin → Type 0
NamesAxiom name (OfAxiom other) = other ≡ name
NamesAxiom name (Hints names) = Contains names (Axiom name)

-- an entry that was given, and may be shared, names the axiom
pub record IsNamedByGiven (given : List Entry) (name : AxiomName) : Type 0 where
  pub entry : Entry
  pub there : Contains given entry
  pub shareable : IsShareable entry
  pub named : NamesAxiom name entry.origin

-- a loop clause is new to what searches use, and any other axiom is called for
abbrev pub IsWanted : (AxiomName → Type 0) → OracleLog → AxiomName → Bool → Type 0
IsWanted Called log name true = IsNew (working log.steps) (axiom_clause name)
IsWanted Called log name false = Called name

-- an axiom of the framework's kind comes, which no step of the log is yet
pub record LearnsAxiom (Called : AxiomName → Type 0) (f : Framework) (name : AxiomName) (clause : List AtomLit)
    (old new : OracleLog) : Type 0 where
  pub of_kind : IsAxiomOf f name
  pub once : (number : ℕ) → IsNumberOf old.steps number → (step_at old.steps number).source ≡ by_axiom name → ⊥
  pub called : IsWanted Called old name (is_loop name)
  pub takes : TakesAxiom name clause old new

-- the framework needs the axiom, or an entry that was given names it
abbrev pub IsCalledOn : Framework → List Entry → AxiomName → Type 0
IsCalledOn f given name = IsNeeded f name ⊎ IsNamedByGiven given name

-- ---- entries

-- the entry was given, and may be shared
pub record WasGiven (given : List Entry) (entry : Entry) : Type 0 where
  pub there : Contains given entry
  pub shareable : IsShareable entry

-- ---- steps

-- one step of the session of the number `own`, on this framework, where a trade gave these entries so far
pub data OwnStep (f : Framework) (own : ℕ) (given : List Entry) (old new : OracleLog) : Type 0 where
  learns_axiom : (name : AxiomName) (clause : List AtomLit) → LearnsAxiom (IsCalledOn f given) f name clause old new
      → OwnStep f own given old new
  learns_clause : (clause : List AtomLit) (hints : List ℕ) (closing : Bool) → LearnsClause clause hints closing old new
      → OwnStep f own given old new
  keeps_side : (literals : List AtomLit) (set : List ℕ) (clause : List AtomLit)
      → TakesSide literals set clause old new → OwnStep f own given old new
  takes_entry : (entry : Entry) → WasGiven given entry → MayImport f own old entry → TakesEntry own entry old new
      → OwnStep f own given old new

-- such steps, one after the other
pub data OwnSteps (f : Framework) (own : ℕ) (given : List Entry) : OracleLog → OracleLog → Type 0 where
  nothing : (log : OracleLog) → OwnSteps f own given log log
  one_more : (old mid new : OracleLog) → OwnSteps f own given old mid → OwnStep f own given mid new
      → OwnSteps f own given old new
