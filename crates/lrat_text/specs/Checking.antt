-- The check of the lines of a refutation, one after the other.
use Rattle.std.specs.Prelude.{◌≡◌, ◌≢◌, ◌⊎◌, ℕ, ◌+◌, ◌<◌, ◌≤◌, ◌==◌, ◌^◌, List, [], ◌∷◌, ◌++◌, length, map, Contains, Option, None, Some, Ok, Err}
use Rattle.std.specs.List.{position, range_with_len}
use Rattle.std.specs.List.Sorted.{IsStrictlyIncreasing}
use Rattle.plain_lits.specs.declared.lit.Lit.{Lit}
use Rattle.plain_lits.specs.Literals.{negation}
use Rattle.plain_lits.specs.HintCheck.{Checks}
use Rattle.lrat_text.specs.declared.steps.Taken.{Taken}
use Rattle.lrat_text.specs.declared.steps.Taken.TheVariants.{Failed, Passed, Empty}
use Rattle.lrat_text.specs.declared.verdict.Verdict.{Verdict}
use Rattle.lrat_text.specs.declared.verdict.Verdict.TheVariants.{Verified, RejectedStep, NoEmptyClause}

-- a line: its id, its clause, and the ids of the steps that its clause follows from
pub record StepLine : Type 0 where
  pub id : ℕ
  pub clause : List Lit
  pub hints : List ℕ

abbrev pub step_line : ℕ → List Lit → List ℕ → StepLine
step_line id clause hints = record { id = id; clause = clause; hints = hints }

-- the steps so far, from number 1 on: the id and the clause of each
pub record StepList : Type 0 where
  pub ids : List ℕ
  pub clauses : List (List Lit)

abbrev pub step_list : List ℕ → List (List Lit) → StepList
step_list ids clauses = record { ids = ids; clauses = clauses }

-- the clauses of a CNF are the first steps, with their numbers from 1 on as ids
abbrev pub steps_of : List (List Lit) → StepList
steps_of clauses = step_list (range_with_len 1 (length clauses)) clauses

abbrev pub with_line : StepList → StepLine → StepList
with_line steps line = step_list (steps.ids ++ line.id ∷ []) (steps.clauses ++ line.clause ∷ [])

-- the number of the step at an index; 0, which is the number of no step, where there is none
abbrev pub number_at : Option ℕ → ℕ
number_at None = 0
number_at (Some index) = index + 1

-- the number of the step that an id names
abbrev pub number_of : List ℕ → ℕ → ℕ
number_of ids id = number_at (position (λ i. i == id) ids)

-- the check takes the clause with hints that name steps by their numbers
abbrev pub IsTaken : List (List Lit) → List Lit → List ℕ → Type 0
IsTaken clauses clause hints = (n : ℕ) × Checks negation clauses clause hints (Ok n)

-- the check rejects it
abbrev pub IsRejected : List (List Lit) → List Lit → List ℕ → Type 0
IsRejected clauses clause hints = (place : ℕ) × Checks negation clauses clause hints (Err place)

-- the line passes the check of its hints, over the steps before it
abbrev pub Passes : StepList → StepLine → Type 0
Passes steps line = IsTaken steps.clauses line.clause (map (number_of steps.ids) line.hints)

-- the line fails it
abbrev pub Fails : StepList → StepLine → Type 0
Fails steps line = IsRejected steps.clauses line.clause (map (number_of steps.ids) line.hints)

-- over the steps so far, the lines come to this: the first that fails is told, or that one without literals has passed
-- before, or that there is none
abbrev pub ComesTo : StepList → List StepLine → Verdict → Type 0
ComesTo steps [] verdict = verdict ≡ NoEmptyClause
ComesTo steps (line ∷ lines) verdict =
    (Fails steps line × (verdict ≡ RejectedStep line.id))
    ⊎ ((Passes steps line × (line.clause ≡ []) × (verdict ≡ Verified))
    ⊎ (Passes steps line × (line.clause ≢ []) × ComesTo (with_line steps line) lines verdict))

-- ---- the state of the check

-- ids rise from above a number on, and fit 32 bits
pub record AreIds (count : ℕ) (ids : List ℕ) : Type 0 where
  pub rise : IsStrictlyIncreasing ids
  pub above : (id : ℕ) → Contains ids id → count < id
  pub fit : (id : ℕ) → Contains ids id → id < 2 ^ 32

-- how many variables and how many clauses the CNF has, the ids of the lines that passed, and the clauses of all steps
pub record CheckState : Type 0 where
  pub vars : ℕ
  pub count : ℕ
  pub ids : List ℕ
  pub clauses : List (List Lit)

abbrev pub check_state : ℕ → ℕ → List ℕ → List (List Lit) → CheckState
check_state vars count ids clauses = record { vars = vars; count = count; ids = ids; clauses = clauses }

-- the steps of a state
abbrev pub steps_in : CheckState → StepList
steps_in s = step_list (range_with_len 1 s.count ++ s.ids) s.clauses

-- no id of the state is over this one
pub record IsLast (last : ℕ) (s : CheckState) : Type 0 where
  pub count : s.count ≤ last
  pub ids : (id : ℕ) → Contains s.ids id → id ≤ last

-- the line passes, and is added
pub record IsAdded (before after : CheckState) (line : StepLine) : Type 0 where
  pub passes : Passes (steps_in before) line
  pub after_is : after ≡ check_state before.vars before.count (before.ids ++ line.id ∷ [])
      (before.clauses ++ line.clause ∷ [])

-- what becomes of a line
abbrev pub TakenAs : CheckState → CheckState → StepLine → Taken → Type 0
TakenAs before after line Failed = Fails (steps_in before) line × (after ≡ before)
TakenAs before after line Empty = (line.clause ≡ []) × IsAdded before after line
TakenAs before after line Passed = (line.clause ≢ []) × IsAdded before after line
