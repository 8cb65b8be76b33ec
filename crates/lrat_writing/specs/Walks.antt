-- A log as a CNF and a refutation of it: the clauses that are given, and for each literal of the last step its negation
-- as a clause of its own; then a line for each derived step, and one with no literals.
use Rattle.std.specs.Prelude.{ℕ, ◌+◌, ◌-◌, List, [], ◌∷◌, ◌++◌, length, map, fold, slice_index_or}
use Rattle.std.specs.List.{flat_map, range_with_len}
use Rattle.plain_lits.specs.declared.lit.Lit.{Lit}
use Rattle.plain_lits.specs.Literals.{negation}
use Rattle.hinted_log.specs.Logs.{Step, step_at}
use Rattle.hinted_log.specs.declared.step_kind.StepKind.{StepKind}
use Rattle.hinted_log.specs.declared.step_kind.StepKind.TheVariants.{Axiom, Side, Derived}
use Rattle.lrat_text.specs.Checking.{StepLine, step_line}
use Rattle.lrat_text.specs.CnfText.{Formula, formula}

-- variables of a log begin at 0, those of a text at 1
abbrev pub shifted : Lit → Lit
shifted l = record { var = l.var + 1; positive = l.positive }

abbrev pub shifted_clause : List Lit → List Lit
shifted_clause clause = map shifted clause

-- the clause of a step, where it is given
abbrev pub given_by : StepKind → List Lit → List (List Lit)
given_by Axiom clause = clause ∷ []
given_by Side clause = clause ∷ []
given_by Derived clause = []

abbrev pub given_of : Step → List (List Lit)
given_of step = given_by step.kind step.clause

abbrev pub given_clauses : List Step → List (List Lit)
given_clauses steps = flat_map given_of steps

-- the clause of the last step
abbrev pub last_clause : List Step → List Lit
last_clause steps = (step_at steps (length steps)).clause

-- the negation of a literal, as a clause
abbrev pub unit_of : Lit → List Lit
unit_of l = negation l ∷ []

abbrev pub cnf_clauses : List Step → List (List Lit)
cnf_clauses steps = map shifted_clause (given_clauses steps ++ map unit_of (last_clause steps))

abbrev pub formula_of : ℕ → List Step → Formula
formula_of vars steps = formula vars (cnf_clauses steps)

-- what was written of the first steps: the id of each, how many of them are given, and the lines of the others
pub record Walk : Type 0 where
  pub ids : List ℕ
  pub given : ℕ
  pub lines : List StepLine

abbrev pub start : Walk
start = record { ids = []; given = 0; lines = [] }

-- the id of the step of a number
abbrev pub id_in : List ℕ → ℕ → ℕ
id_in ids number = slice_index_or ids (number - 1) 0

-- the next line's id, behind so many clauses of a CNF
abbrev pub next_id : ℕ → Walk → ℕ
next_id count w = count + length w.lines + 1

-- a step that is given has the number of its clause as its id
abbrev pub with_given : Walk → Walk
with_given w = record { ids = w.ids ++ (w.given + 1) ∷ []; given = w.given + 1; lines = w.lines }

-- a derived step has a line
abbrev pub with_derived : ℕ → Walk → List Lit → List ℕ → Walk
with_derived count w clause hints = record {
  ids = w.ids ++ next_id count w ∷ [];
  given = w.given;
  lines = w.lines ++ step_line (next_id count w) (shifted_clause clause) (map (id_in w.ids) hints) ∷ [];
}

abbrev pub walk_on : ℕ → Walk → StepKind → List Lit → List ℕ → Walk
walk_on count w Axiom clause hints = with_given w
walk_on count w Side clause hints = with_given w
walk_on count w Derived clause hints = with_derived count w clause hints

abbrev pub walk_step : ℕ → Walk → Step → Walk
walk_step count w step = walk_on count w step.kind step.clause step.hints

-- behind so many clauses of a CNF
abbrev pub walk : ℕ → List Step → Walk
walk count steps = fold (walk_step count) start steps

-- the line without literals: its hints are the clauses of one literal, and then the last step
abbrev pub final_line : ℕ → List Step → Walk → StepLine
final_line count steps w = step_line (next_id count w) []
    (range_with_len (length (given_clauses steps) + 1) (length (last_clause steps)) ++ id_in w.ids (length steps) ∷ [])

-- the lines of a walk and the one without literals
abbrev pub lines_of : ℕ → List Step → Walk → List StepLine
lines_of count steps w = w.lines ++ final_line count steps w ∷ []

abbrev pub step_lines : List Step → List StepLine
step_lines steps = lines_of (length (cnf_clauses steps)) steps (walk (length (cnf_clauses steps)) steps)
