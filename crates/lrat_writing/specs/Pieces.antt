-- What is added to a text for a part of a log.
use Rattle.std.specs.Prelude.{◌≡◌, ℕ, ◌+◌, List, [], ◌∷◌, ◌++◌, length, map, codes}
use Rattle.std.specs.List.{flat_map}
use Rattle.std.specs.Fmt.{decimal}
use Rattle.plain_lits.specs.declared.lit.Lit.{Lit}
use Rattle.plain_lits.specs.Literals.{negation}
use Rattle.hinted_log.specs.Logs.{Step}
use Rattle.hinted_log.specs.declared.step_kind.StepKind.{StepKind}
use Rattle.hinted_log.specs.declared.step_kind.StepKind.TheVariants.{Axiom, Side, Derived}
use Rattle.lrat_writing.specs.Texts.{lit_text, lrat_text}
use Rattle.lrat_writing.specs.Walks.{shifted, Walk}

-- a literal, and a blank
abbrev pub literal_piece : Lit → List ℕ
literal_piece l = lit_text (shifted l) ++ 32 ∷ []

-- a number, and a blank
abbrev pub number_piece : ℕ → List ℕ
number_piece n = decimal n ++ 32 ∷ []

-- a clause's line
abbrev pub clause_piece : List Lit → List ℕ
clause_piece clause = flat_map literal_piece clause ++ codes "0\n"

-- the line of a literal's negation
abbrev pub unit_piece : Lit → List ℕ
unit_piece l = literal_piece (negation l) ++ codes "0\n"

-- the line of a step that is given
abbrev pub kind_piece : StepKind → List Lit → List ℕ
kind_piece Axiom clause = clause_piece clause
kind_piece Side clause = clause_piece clause
kind_piece Derived clause = []

abbrev pub given_piece : Step → List ℕ
given_piece step = kind_piece step.kind step.clause

-- how many clauses a step of a kind gives
abbrev pub kind_count : StepKind → ℕ
kind_count Axiom = 1
kind_count Side = 1
kind_count Derived = 0

-- behind a text that was there, the lines of a walk are written, and this is kept of it
pub record IsWritten (base : List ℕ) (w : Walk) (text ids : List ℕ) (given lines : ℕ) : Type 0 where
  pub text_is : text ≡ base ++ lrat_text w.lines
  pub ids_are : ids ≡ w.ids
  pub given_is : given ≡ w.given
  pub lines_are : lines ≡ length w.lines
