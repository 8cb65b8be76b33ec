-- Texts that are written step by step.
use Rattle.std.specs.Prelude.{◌≡◌, ℕ, ◌+◌, List, [], length}
use Rattle.std.specs.List.{flat_map}
use Rattle.plain_lits.specs.declared.lit.Lit.{Lit}
use Rattle.hinted_log.specs.Logs.{Step}
use Rattle.hinted_log.specs.declared.step_kind.StepKind.{StepKind}
use Rattle.lrat_writing.specs.declared.writer.Writer.{Writer}
use Rattle.lrat_writing.specs.declared.writer.Written.{Written}
use Rattle.lrat_writing.specs.Texts.{cnf_text, lrat_text}
use Rattle.lrat_writing.specs.Pieces.{given_piece, IsWritten}
use Rattle.lrat_writing.specs.Walks.{cnf_clauses, formula_of, step_lines, walk}

-- a step by its parts
abbrev pub step_of : StepKind → List Lit → List ℕ → Step
step_of kind clause hints = record { clause = clause; kind = kind; hints = hints }

-- the lines of the steps that are given are written, and those of the others
pub record IsWriterOf (steps : List Step) (w : Writer) : Type 0 where
  pub cnf : w.cnf.items ≡ flat_map given_piece steps
  pub lrat : IsWritten [] (walk w.count steps) w.lrat.items w.ids.items w.given w.lines
  pub all : w.given + w.lines ≡ length steps

-- the texts of steps, and how many clauses and lines they have
pub record AreTextsOf (vars : ℕ) (steps : List Step) (w : Written) : Type 0 where
  pub cnf : w.cnf ≡ cnf_text (formula_of vars steps)
  pub lrat : w.lrat ≡ lrat_text (step_lines steps)
  pub clauses : w.clauses ≡ length (cnf_clauses steps)
  pub lines : w.lines ≡ length (step_lines steps)
