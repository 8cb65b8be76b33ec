-- How a log grows by one step: an axiom comes, a side clause comes with its step, or a clause is derived.
use Rattle.std.specs.Prelude.{◌≡◌, ◌⊎◌, ℕ, ◌+◌, ◌<◌, Bool, true, false, List, [], ◌∷◌, ◌++◌, length, Contains, Option}
use Rattle.std.specs.Prelude.{None, Ok}
use Rattle.plain_lits.specs.HintCheck.{Checks}
use Rattle.plain_lits.specs.Units.{Units}
use Rattle.semantics.specs.Frameworks.{Framework}
use Rattle.meaning_atoms.specs.declared.atom.AtomLit.{AtomLit}
use Rattle.meaning_atoms.specs.declared.axiom.AxiomName.{AxiomName}
use Rattle.meaning_atoms.specs.Literals.{negated}
use Rattle.oracle_face.specs.certificate_claims.specs.Refutations.{axiom_clause}
use Rattle.oracle_face.specs.declared.entry.EntryName.{EntryName}
use Rattle.oracle_face.specs.Logs.{OracleLog, LogStep, SideClause, Source, by_axiom, by_side, by_hints, IsLog}
use Rattle.oracle_face.specs.Logs.{HasPart, IsNew, IsNumberOf, IsSameClause, guarded, clauses_of, closings_of, side_at}
use Rattle.oracle_face.specs.Logs.{step_at, working}
use Rattle.oracle_face.specs.Goals.{IsSide}
use Rattle.oracle_face.specs.Growing.{Making, Grows, Works}
use Rattle.session_log.specs.Guards.{IsGuarded}

-- the log had room, and has this step behind the others; these are its side clauses now
pub record GainsStep (step : LogStep) (sides : List SideClause) (old new : OracleLog) : Type 0 where
  pub room : length old.steps < old.limit
  pub limit : new.limit ≡ old.limit
  pub steps : new.steps ≡ old.steps ++ step ∷ []
  pub sides_now : new.sides ≡ sides

-- a step of one's own that searches use
abbrev pub own_step : List AtomLit → Source → LogStep
own_step clause source = record { clause = clause; source = source; imported = None; closing = false }

-- the step of an axiom, which is one's own or taken from an entry
abbrev pub axiom_step : AxiomName → List AtomLit → Option EntryName → LogStep
axiom_step name clause imported =
    record { clause = clause; source = by_axiom name; imported = imported; closing = false }

-- an axiom comes
pub record TakesAxiom (name : AxiomName) (clause : List AtomLit) (old new : OracleLog) : Type 0 where
  pub same : IsSameClause clause (axiom_clause name)
  pub gains : GainsStep (own_step clause (by_axiom name)) old.sides old new

abbrev pub side_made : List AtomLit → List ℕ → SideClause
side_made literals set = record { literals = literals; set = set }

-- a side clause comes that has not the literals of another, and its step with it
pub record TakesSide (literals : List AtomLit) (set : List ℕ) (clause : List AtomLit)
    (old new : OracleLog) : Type 0 where
  pub is_side : IsSide literals
  pub other : (n : ℕ) → IsNumberOf old.sides n → IsSameClause (side_at old.sides n).literals literals → ⊥
  pub same : IsSameClause clause (guarded (length old.sides + 1) literals)
  pub gains : GainsStep (own_step clause (by_side (length old.sides + 1))) (old.sides ++ side_made literals set ∷ [])
      old new

-- some hint's clause has the literal
pub record StandsInHint (steps : List LogStep) (hints : List ℕ) (l : AtomLit) : Type 0 where
  pub hint : ℕ
  pub listed : Contains hints hint
  pub there : Contains (step_at steps hint).clause l

-- what a derived clause and its hints have to be: the hint check takes the clause by all hints, and none of them only
-- ended a search; each literal of a hint's clause stands in the clause, or its negation in a hint's; and each literal
-- of the clause comes from a hint's
pub record FollowsByHints (steps : List LogStep) (clause : List AtomLit) (hints : List ℕ) : Type 0 where
  pub checks : Checks negated (clauses_of steps) clause hints (Ok (length hints))
  pub kept : (hint : ℕ) → Contains hints hint → (step_at steps hint).closing ≡ false
  pub used : (l : AtomLit) → StandsInHint steps hints l → Contains clause l ⊎ StandsInHint steps hints (negated l)
  pub come : (l : AtomLit) → Contains clause l → StandsInHint steps hints l

abbrev pub derived_step : List AtomLit → List ℕ → Option EntryName → Bool → LogStep
derived_step clause hints imported closing =
    record { clause = clause; source = by_hints hints; imported = imported; closing = closing }

-- a clause is derived, from an entry or by oneself; it may be one that only ended a search
pub record Derives (clause : List AtomLit) (hints : List ℕ) (imported : Option EntryName) (closing : Bool)
    (old new : OracleLog) : Type 0 where
  pub follows : FollowsByHints old.steps clause hints
  pub gains : GainsStep (derived_step clause hints imported closing) old.sides old new

-- a derived clause only ends a search where no step's clause is a part of it, and else it is new
abbrev pub IsWorthIt : List LogStep → List AtomLit → Bool → Type 0
IsWorthIt steps clause true = HasPart (clauses_of steps) clause → ⊥
IsWorthIt steps clause false = IsNew (working steps) clause

-- a clause of one's own is derived that is worth it
pub record LearnsClause (clause : List AtomLit) (hints : List ℕ) (closing : Bool) (old new : OracleLog) : Type 0 where
  pub worth : IsWorthIt old.steps clause closing
  pub derives : Derives clause hints None closing old new

-- such clauses are derived, one after the other
pub data LearnsClauses : OracleLog → OracleLog → Type 0 where
  nothing : (log : OracleLog) → LearnsClauses log log
  one_more : (old mid new : OracleLog) (clause : List AtomLit) (hints : List ℕ) (closing : Bool)
      → LearnsClauses old mid → LearnsClause clause hints closing mid new → LearnsClauses old new

-- the log grows, and stays a guarded log
pub record StaysGuarded (P : Making) (f : Framework) (old new : OracleLog) : Type 0 where
  pub grows : Grows P old new
  pub form : IsLog f new
  pub guards : IsGuarded new

-- what a step spends: so many units of the budget, each new and no fact but a false one, and so many steps that only
-- ended a search
pub record Spends (f : Framework) (old new : OracleLog) (units closings : ℕ) : Type 0 where
  pub works : (before after : Units) → after.used ≡ before.used + units → Works f old new before after
  pub closes : closings_of new ≡ closings_of old + closings
