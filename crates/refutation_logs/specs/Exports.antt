-- A refutation as the text of a CNF and of LRAT lines, with their numbers.
use Rattle.std.specs.Prelude.{◌≡◌, ℕ, ◌≤◌, List, length, slice_index_or, Ok}
use Rattle.semantics.specs.Frameworks.{Framework}
use Rattle.num_text.specs.declared.limit.TheConstants.{MAX_INPUT}
use Rattle.meaning_atoms.specs.declared.atom.Atom.{Atom}
use Rattle.meaning_atoms.specs.declared.atom.AtomLit.{AtomLit}
use Rattle.certificate_claims.specs.declared.certificate.Step.{Step}
use Rattle.certificate_claims.specs.declared.certificate.Refutation.{Refutation}
use Rattle.certificate_claims.specs.Acceptance.{no_refutation}
use Rattle.answer_claims.specs.declared.claim.Claim.{Claim}
use Rattle.answer_claims.specs.SideClauses.{sides_of}
use Rattle.certificate_check.specs.Flaws.{no_claim}
use Rattle.hinted_log.specs.Logs.{Step as LogStep}
use Rattle.lrat_text.specs.CnfText.{IsCnfText}
use Rattle.lrat_text.specs.LratText.{IsChecked}
use Rattle.lrat_text.specs.declared.verdict.Verdict.TheVariants.{Verified}
use Rattle.lrat_writing.specs.Texts.{cnf_text, lrat_text}
use Rattle.lrat_writing.specs.Walks.{cnf_clauses, formula_of, step_lines}
use Rattle.refutation_logs.specs.declared.texts.Exported.{Exported}
use Rattle.refutation_logs.specs.Logged.{IsLogFor}

-- the texts are those of a log with the variables of these atoms, and the numbers those of its variables, its clauses
-- and its lines; where the texts are no longer than a text may be, they are read, and the one is verified by the other
pub record IsTextOf (atoms : List Atom) (logged : List LogStep) (e : Exported) : Type 0 where
  pub vars : e.vars ≡ length atoms
  pub clauses : e.written.clauses ≡ length (cnf_clauses logged)
  pub lines : e.written.lines ≡ length (step_lines logged)
  pub cnf : e.written.cnf ≡ cnf_text (formula_of (length atoms) logged)
  pub lrat : e.written.lrat ≡ lrat_text (step_lines logged)
  pub reads : length e.written.cnf ≤ MAX_INPUT → IsCnfText e.written.cnf (formula_of (length atoms) logged)
  pub verified : length e.written.cnf ≤ MAX_INPUT
      → IsChecked (formula_of (length atoms) logged) e.written.lrat (Ok Verified)

-- so they are of the log that has the steps of a refutation
pub record IsExportOf (sides : List (List AtomLit)) (steps : List Step) (e : Exported) : Type 0 where
  pub atoms : List Atom
  pub logged : List LogStep
  pub log : IsLogFor sides steps atoms logged
  pub text : IsTextOf atoms logged e

-- the side clauses of the claim at an index, and the steps of the refutation there
abbrev pub sides_in : Framework → List Claim → ℕ → List (List AtomLit)
sides_in f claims index =
    sides_of f (slice_index_or claims index no_claim).kind (slice_index_or claims index no_claim).sides

abbrev pub steps_in : List Refutation → ℕ → List Step
steps_in refutations index = (slice_index_or refutations index no_refutation).steps
