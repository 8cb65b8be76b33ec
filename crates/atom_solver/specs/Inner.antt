-- The inner state of a solver over atoms, which no caller sees.
use Rattle.std.specs.Prelude.{◌≡◌, ℕ, ◌+◌, ◌≤◌, List, [], ◌∷◌, ◌++◌, length, slice_index_or, Option, None, Some}
use Rattle.oracle_face.specs.declared.step_source.StepSource.{StepSource}
use Rattle.oracle_face.specs.declared.step_source.StepSource.TheVariants.{Hints}
use Rattle.meaning_atoms.specs.declared.atom.Atom.{Atom}
use Rattle.oracle_face.specs.declared.face.Pending.{Pending as Kept}
use Rattle.oracle_face.specs.declared.face.Pending.TheVariants.{Learned}
use Rattle.oracle_face.specs.Logs.{Source, IsSameClause, by_side, guarded}
use Rattle.plain_lits.specs.Units.{Units}
use Rattle.plain_lits.specs.declared.halt.Halt.{Halt}
use Rattle.plain_lits.specs.declared.halt.Halt.TheVariants.{Spent, LogFull, Memory}
use Rattle.session_log.specs.Steps.{GainsStep, own_step, side_made}
use Rattle.meaning_atoms.specs.declared.atom.AtomLit.{AtomLit}
use Rattle.sat_core.specs.declared.answer.Added.{Added}
use Rattle.sat_core.specs.declared.answer.Added.TheVariants.{Axiom, Side, Derived}
use Rattle.sat_core.specs.declared.answer.UnaddedClause.{UnaddedClause}
use Rattle.sat_core.specs.declared.answer.Solved.{Solved}
use Rattle.sat_core.specs.declared.answer.Solved.TheVariants.{Model as Satisfied, Core}
use Rattle.sat_core.specs.Solving.{begun}
use Rattle.atom_solver.specs.declared.parts.SolverParts.{SolverParts}
use Rattle.atom_solver.specs.declared.searched.Searched.{Searched}
use Rattle.atom_solver.specs.declared.searched.Searched.TheVariants.{Model, Refuted}
use Rattle.atom_solver.specs.States.{AtomState}
use Rattle.atom_solver.specs.Lifted.{state_over, IsLifting}
use Rattle.atom_solver.specs.Tables.{told}

-- what contracts see
abbrev pub state_of : SolverParts → AtomState
state_of p = state_over p.table p.solver p.origins.items p.sides.kept p.pending

-- the table has the variables of the log, and origins are of its steps
abbrev pub IsWhole : SolverParts → Type 0
IsWhole p = IsLifting p.table p.solver p.origins.items

-- what a search found, over atoms
abbrev pub Tells : List Atom → Solved → Searched → Type 0
Tells atoms (Satisfied lits) found = found ≡ Model (told atoms lits)
Tells atoms (Core step) found = found ≡ Refuted step

-- the clause that was in hand is kept, over atoms
abbrev pub IsKept : List Atom → Option UnaddedClause → Option Kept → Type 0
IsKept atoms None kept = Unit {0}
IsKept atoms (Some in_hand) kept = kept ≡ Some (Learned (told atoms in_hand.clause) in_hand.hints)

-- what a search leaves in hand is kept: nothing else has changed
pub record KeepsInHand (old new : SolverParts) : Type 0 where
  pub table : new.table ≡ old.table
  pub solver : new.solver ≡ begun old.solver
  pub origins : new.origins ≡ old.origins
  pub sides : new.sides ≡ old.sides

-- a clause comes that no hints show
abbrev pub NeedsNoHints : Added → Type 0
NeedsNoHints Axiom = Unit {0}
NeedsNoHints Side = Unit {0}
NeedsNoHints (Derived hints) = ⊥

-- the log has one step more, which is in use, and nothing else has changed
pub record GainsGiven (clause : List AtomLit) (source : Source) (old new : AtomState) : Type 0 where
  pub gains : GainsStep (own_step clause source) old.log.sides old.log new.log
  pub pending_same : new.pending ≡ old.pending

-- so many steps at most have origins of their own, and they have those that they had
pub record IsFilled (old new : List StepSource) (steps : ℕ) : Type 0 where
  pub within : length new ≤ steps
  pub same : (k : ℕ) → slice_index_or new k Hints ≡ slice_index_or old k Hints

-- a side clause comes with its step, which is in use
pub record KeepsSide (literals : List AtomLit) (set : List ℕ) (old new : AtomState) (number : ℕ) : Type 0 where
  pub next : number ≡ length old.log.sides + 1
  pub clause : List AtomLit
  pub same : IsSameClause clause (guarded number literals)
  pub gains : GainsStep (own_step clause (by_side number)) (old.log.sides ++ side_made literals set ∷ []) old.log
      new.log

-- the budget was spent, and the clause that would have been a unit is kept
pub record IsUnitSpent (work : Kept) (new : AtomState) (before after : Units) (count : ℕ) : Type 0 where
  pub is_limit : count ≡ after.limit
  pub is_used : count ≡ after.used
  pub unspent : after.used ≡ before.used
  pub kept : new.pending ≡ Some work

-- the log is full, and nothing was spent
pub record IsUnitFull (new : AtomState) (before after : Units) : Type 0 where
  pub full : length new.log.steps ≡ new.log.limit
  pub unspent : after.used ≡ before.used

-- why a clause that would have been a unit wasn't added
abbrev pub StopsUnit : Kept → AtomState → Units → Units → Halt → Type 0
StopsUnit work new before after (Spent count) = IsUnitSpent work new before after count
StopsUnit work new before after LogFull = IsUnitFull new before after
StopsUnit work new before after Memory = Unit {0}
