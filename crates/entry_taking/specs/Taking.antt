-- How an entry comes into a log, or why it can't.
use Rattle.std.specs.Prelude.{◌≡◌, ◌⊎◌, ℕ, ◌<◌, ◌≤◌, Bool, true, false, List, length, Option, Some, None, IsSome}
use Rattle.semantics.specs.Frameworks.{Framework}
use Rattle.meaning_atoms.specs.declared.atom.AtomLit.{AtomLit}
use Rattle.meaning_atoms.specs.declared.axiom.AxiomName.{AxiomName}
use Rattle.meaning_atoms.specs.declared.axiom.AxiomName.TheVariants.{Af as OfAf, Aba as OfAba}
use Rattle.meaning_atoms.specs.AxiomNames.{IsAxiomName}
use Rattle.certificate_claims.specs.Refutations.{axiom_clause}
use Rattle.oracle_face.specs.declared.entry.Entry.{Entry as AnEntry}
use Rattle.oracle_face.specs.declared.entry.EntryName.{EntryName}
use Rattle.oracle_face.specs.declared.entry.EntryOrigin.{EntryOrigin}
use Rattle.oracle_face.specs.declared.entry.HintName.{HintName}
use Rattle.plain_lits.specs.Units.{Units}
use Rattle.oracle_face.specs.Growing.{Grows, HasRun, NoSide}
use Rattle.oracle_face.specs.Kinds.{is_assumption_based}
use Rattle.oracle_face.specs.Logs.{OracleLog, IsSameClause, LogStep, HasPart, IsNumberOf, is_loop, step_at, working}
use Rattle.session_log.specs.Imports.{IsCalled, IsShownHere, MayImport, StandForSteps, StandsFor}
use Rattle.entry_taking.specs.declared.names.StepNames.{StepNames}
use Rattle.atom_solver.specs.States.{AtomState, IsGuardedLog}
use Rattle.entry_taking.specs.declared.names.StepName.TheVariants.{Entry}
use Rattle.entry_taking.specs.Names.{AreNamed, told_of}

-- all steps were looked at
pub record IsLooked (names : StepNames) (steps : List LogStep) : Type 0 where
  pub named : AreNamed names steps
  pub all : names.seen ≡ length steps

-- a step of one's own that wasn't taken from an entry
pub record IsOwn (steps : List LogStep) (number : ℕ) : Type 0 where
  pub named : IsNumberOf steps number
  pub own : (step_at steps number).imported ≡ None

-- the first step that is called so
pub record IsFirst (own : ℕ) (steps : List LogStep) (name : HintName) (number : ℕ) : Type 0 where
  pub named : IsNumberOf steps number
  pub called : IsCalled own name number (step_at steps number)
  pub first : (other : ℕ) → IsNumberOf steps other → IsCalled own name other (step_at steps other) → number ≤ other

-- or that none is
abbrev pub IsCalledFirst : ℕ → List LogStep → HintName → Option ℕ → Type 0
IsCalledFirst own steps name (Some number) = IsFirst own steps name number
IsCalledFirst own steps name None =
    (number : ℕ) → IsNumberOf steps number → IsCalled own name number (step_at steps number) → ⊥

-- the step that a name stands for, or that it stands for none
abbrev pub IsFound : ℕ → List LogStep → HintName → Option ℕ → Type 0
IsFound own steps name (Some number) = StandsFor own steps name number
IsFound own steps name None = (number : ℕ) → StandsFor own steps name number → ⊥

-- the steps that names stand for, or that one of them stands for none
abbrev pub AreFound : ℕ → List LogStep → List HintName → Option (List ℕ) → Type 0
AreFound own steps names (Some hints) = StandForSteps own steps names hints
AreFound own steps names None = (hints : List ℕ) → StandForSteps own steps names hints → ⊥

-- searches use a clause that is part of this one, or else its origin doesn't show it, or there is no room
abbrev pub ComesIn : Framework → ℕ → List AtomLit → EntryOrigin → OracleLog → OracleLog → Type 0
ComesIn f own clause origin before after =
    HasPart (working after.steps) clause
    ⊎ (length before.steps < before.limit → IsShownHere f own before.steps clause origin → ⊥)

-- searches use a clause that is part of the entry's, or else the entry may not be taken into the log before
abbrev pub ImportsOrMayNot : Framework → ℕ → AnEntry → OracleLog → OracleLog → Type 0
ImportsOrMayNot f own entry before after =
    HasPart (working after.steps) entry.clause ⊎ (MayImport f own before entry → ⊥)

-- whether the axiom is one of assumption-based frameworks
abbrev pub is_of_aba : AxiomName → Bool
is_of_aba (OfAf name) = false
is_of_aba (OfAba name) = true

-- the axiom may come from an entry where frameworks are of this kind: it is one of theirs, and no loop clause
pub record MayCome (assumption_based : Bool) (name : AxiomName) : Type 0 where
  pub of_kind : is_of_aba name ≡ assumption_based
  pub no_loop : is_loop name ≡ false

-- the clause is that of an axiom, whose arguments fit its row
abbrev pub IsOfAxiom : AxiomName → List AtomLit → Type 0
IsOfAxiom name clause = IsAxiomName name × IsSameClause clause (axiom_clause name)

-- the entry is one's own, or was taken in
abbrev pub IsKnown : StepNames → ℕ → EntryName → Type 0
IsKnown names own name = (name.session ≡ own) ⊎ IsSome (told_of names (Entry name.session name.step))

-- the log has gone on, with nothing spent; where it was a guarded log beside a framework of this kind it is one
pub record GoesOn (assumption_based : Bool) (old new : AtomState) : Type 0 where
  pub grows : Grows NoSide old.log new.log
  pub log : (f : Framework) → is_assumption_based f ≡ assumption_based → IsGuardedLog f old.log
      → IsGuardedLog f new.log
  pub run : (f : Framework) (units : Units) → IsGuardedLog f old.log
      → HasRun NoSide 0 f old.log new.log new.pending units units None
