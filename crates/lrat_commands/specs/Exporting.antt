-- The texts of a refutation of a certificate, and how a run that is to write them may end.
use Rattle.std.specs.Prelude.{◌≡◌, ◌⊎◌, ◌<◌, ◌≤◌, ℕ, ◌+◌, List, [], ◌∷◌, ◌++◌, codes, length, Option, None, Some}
use Rattle.semantics.specs.Frameworks.{Framework}
use Rattle.std.specs.Fmt.{decimal}
use Rattle.argue_outside.specs.Outside.{KnownFile}
use Rattle.argue_words.specs.Words.{CheckTexts, ExportTexts}
use Rattle.iccma_tasks.specs.Tasks.{Asked}
use Rattle.iccma_tasks.specs.declared.answer.Answer.{Answer}
use Rattle.certificate_claims.specs.Claims.{row_of}
use Rattle.certificate_claims.specs.Verdicts.{claim_at, steps_at}
use Rattle.certificate_claims.specs.declared.certificate.Certificate.{Certificate}
use Rattle.edit_rules.specs.Kinds.{framework_of}
use Rattle.refutation_logs.specs.Exports.{IsExportOf}
use Rattle.refutation_logs.specs.declared.texts.Exported.{Exported}
use Rattle.argue_commands.specs.Checks.{CheckEnds, IsAnswerOf, IsCertificateOf, check_inputs}
use Rattle.argue_commands.specs.Inputs.{IsFrameworkOf, Reading, StopsAtFirst}
use Rattle.argue_commands.specs.Queries.{asked_by, number_of}
use Rattle.argue_commands.specs.Replacing.{FileText}
use Rattle.argue_commands.specs.declared.checking.Checked.{Checked}
use Rattle.argue_commands.specs.declared.ended.Refusal.TheVariants.{NoRefutation}
use Rattle.argue_commands.specs.declared.ended.Status.{Status}
use Rattle.argue_commands.specs.declared.ended.Status.TheVariants.{Done, InputRefused, WantOfMemory}
use Rattle.lrat_commands.specs.declared.exporting.Exporting.{Exporting}

-- ---- what is asked

-- a query with the number of a refutation
abbrev pub exporting_with : Option Asked → Option ℕ → Option Exporting
exporting_with (Some asked) (Some number) = Some (record { query = asked; number = number })
exporting_with _ _ = None

-- the query that the texts of the words for an export ask, with the number of the refutation
unfoldable pub exporting_by : ExportTexts → Option Exporting
exporting_by texts = exporting_with (asked_by texts.check.task texts.check.number) (number_of texts.refutation)

-- ---- how it ends

-- the certificate has a refutation of this number, counted from 1
abbrev pub HasRefutation : Certificate → ℕ → Type 0
HasRefutation certificate number = (0 < number) × (number ≤ length certificate.refutations)

-- it has none
abbrev pub HasNoRefutation : Certificate → ℕ → Type 0
HasNoRefutation certificate number = (number ≡ 0) ⊎ (length certificate.refutations < number)

-- how an export ends by its framework, query, answer, certificate and number: as the check does, but where the
-- certificate is accepted it is done where there is a refutation of the number, and else the number is refused
abbrev pub ExportEnds : Framework → Asked → Answer → Certificate → ℕ → Status → Type 0
ExportEnds f asked answer certificate number Done =
    CheckEnds f asked answer certificate Done × HasRefutation certificate number
ExportEnds f asked answer certificate number (InputRefused (NoRefutation k)) =
    (k ≡ number) × CheckEnds f asked answer certificate Done × HasNoRefutation certificate number
ExportEnds f asked answer certificate number end = CheckEnds f asked answer certificate end

-- an export of what the files read as ends so
pub record ExportsFiles (holds : List ℕ → KnownFile) (exporting : Exporting) (texts : CheckTexts) (end : Status) : Type 0
  where
    pub framework : Framework
    pub answer : Answer
    pub certificate : Certificate
    pub of_framework : IsFrameworkOf (holds texts.file) framework
    pub of_answer : IsAnswerOf (holds texts.answer) answer
    pub of_certificate : IsCertificateOf (holds texts.certificate) certificate
    pub ends : ExportEnds framework exporting.query answer certificate exporting.number end

-- how an export may end: by reading the files, for want of memory, or as it ends on what they read as
abbrev pub EndsExporting : Reading → Exporting → CheckTexts → Status → Type 0
EndsExporting found exporting texts end =
    StopsAtFirst found end (check_inputs texts)
    ⊎ ((end ≡ WantOfMemory) ⊎ ExportsFiles found.holds exporting texts end)

-- ---- the texts

-- these are the texts of the refutation of this number of the certificate
pub record IsTextOf (f : Framework) (asked : Asked) (answer : Answer) (certificate : Certificate) (number : ℕ)
    (exported : Exported) : Type 0 where
  pub index : ℕ
  pub number_is : number ≡ index + 1
  pub within : index < length certificate.refutations
  pub is : IsExportOf (claim_at f (row_of f asked answer) certificate index).sides (steps_at certificate index) exported

-- these are those of what was read
abbrev pub IsTextFrom : Checked → Exporting → Exported → Type 0
IsTextFrom read exporting exported =
    IsTextOf (framework_of read.framework) exporting.query read.answer read.certificate exporting.number exported

-- the files read as a framework, an answer and a certificate that is accepted for it, and these are the texts of the
-- refutation of the number in it
pub record IsExported (holds : List ℕ → KnownFile) (exporting : Exporting) (texts : CheckTexts) (exported : Exported)
    : Type 0 where
  pub framework : Framework
  pub answer : Answer
  pub certificate : Certificate
  pub of_framework : IsFrameworkOf (holds texts.file) framework
  pub of_answer : IsAnswerOf (holds texts.answer) answer
  pub of_certificate : IsCertificateOf (holds texts.certificate) certificate
  pub accepts : CheckEnds framework exporting.query answer certificate Done
  pub text : IsTextOf framework exporting.query answer certificate exporting.number exported

-- ---- what is written

-- the line that tells how many variables, clauses and lines there are
abbrev pub exported_text : Exported → List ℕ
exported_text e =
    codes "EXPORTED " ++ (decimal e.vars ++ (32 ∷ (decimal e.written.clauses ++ (32 ∷ (decimal e.written.lines
    ++ 10 ∷ [])))))

-- the names of the files
abbrev pub cnf_name : List ℕ → List ℕ
cnf_name output = output ++ codes ".cnf"

abbrev pub lrat_name : List ℕ → List ℕ
lrat_name output = output ++ codes ".lrat"

-- the files, in the order of writing
abbrev pub exported_files : List ℕ → Exported → List FileText
exported_files output e =
    record { name = cnf_name output; bytes = e.written.cnf }
    ∷ record { name = lrat_name output; bytes = e.written.lrat } ∷ []
