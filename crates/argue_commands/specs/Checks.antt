-- How a check of an answer with its certificate may end.
use Rattle.std.specs.Prelude.{◌≡◌, ◌⊎◌, ℕ, List, [], ◌∷◌, Ok}
use Rattle.semantics.specs.Frameworks.{Framework}
use Rattle.argue_outside.specs.Outside.{KnownFile}
use Rattle.argue_outside.specs.declared.Role.TheVariants as role
use Rattle.argue_words.specs.Words.{CheckTexts}
use Rattle.framework_text.specs.FrameworkText.{ReadsAs}
use Rattle.iccma_tasks.specs.AnswerText.{filled_fields, ReadsAs as AnswerReadsAs}
use Rattle.iccma_tasks.specs.Tasks.{Asked}
use Rattle.iccma_tasks.specs.declared.answer.Answer.{Answer}
use Rattle.certificate_claims.specs.Verdicts.{IsVerdict}
use Rattle.certificate_claims.specs.declared.certificate.Certificate.{Certificate}
use Rattle.certificate_claims.specs.declared.verdict.Verdict.TheVariants.{Accepted, Rejected as IsRejected}
use Rattle.certificate_text.specs.Reading.{ReadsAs as CertReadsAs}
use Rattle.edit_rules.specs.Fitting.{Fits, IsFaultOf}
use Rattle.edit_rules.specs.Kinds.{framework_of}
use Rattle.argue_commands.specs.Inputs.{HasBytes, Input, IsFirstFaultIn, IsFrameworkOf, IsSoundIn, Reading}
use Rattle.argue_commands.specs.Inputs.{StopsAtFirst, input}
use Rattle.argue_commands.specs.declared.checking.CheckBytes.{CheckBytes}
use Rattle.argue_commands.specs.declared.checking.Checked.{Checked}
use Rattle.argue_commands.specs.declared.ended.FaultCause.TheVariants as cause_of
use Rattle.iccma_tasks.specs.declared.fault.AnswerFault.{AnswerFault}
use Rattle.iccma_tasks.specs.declared.fault.AnswerFault.TheVariants as answer_fault
use Rattle.certificate_text.specs.declared.fault.CertFault.{CertFault}
use Rattle.certificate_text.specs.declared.fault.CertFault.TheVariants as certificate_fault
use Rattle.argue_commands.specs.declared.ended.Refusal.TheVariants.{Line, Query}
use Rattle.argue_commands.specs.declared.ended.Rejection.TheVariants.{Certificate as OfCertificate}
use Rattle.argue_commands.specs.declared.ended.Status.{Status}
use Rattle.argue_commands.specs.declared.ended.Status.TheVariants.{Done, InputRefused, WantOfMemory, Rejected}

-- the files of a check, in the order of reading
abbrev pub check_inputs : CheckTexts → List Input
check_inputs texts =
    input (role.Framework 1) texts.file ∷ input role.Answer texts.answer ∷ input role.Certificate texts.certificate ∷ []

-- how a check ends by its framework, query, answer and certificate: done where the certificate is accepted, else with
-- its first failure; a query that doesn't fit is refused before
abbrev pub CheckEnds : Framework → Asked → Answer → Certificate → Status → Type 0
CheckEnds f asked answer certificate Done = Fits f asked × IsVerdict f asked answer certificate Accepted
CheckEnds f asked answer certificate (Rejected (OfCertificate failure refutation step)) =
    Fits f asked × IsVerdict f asked answer certificate (IsRejected failure refutation step)
CheckEnds f asked answer certificate (InputRefused (Query fault)) = IsFaultOf f asked fault
CheckEnds f asked answer certificate _ = ⊥

-- the answer that the file's bytes read as
pub record IsAnswerOf (known : KnownFile) (answer : Answer) : Type 0 where
  pub bytes : List ℕ
  pub has : HasBytes known bytes
  pub reads : AnswerReadsAs (filled_fields bytes) answer

-- the certificate that the file's bytes read as
pub record IsCertificateOf (known : KnownFile) (certificate : Certificate) : Type 0 where
  pub bytes : List ℕ
  pub has : HasBytes known bytes
  pub reads : CertReadsAs bytes (Ok certificate)

-- a check of what the files read as ends so
pub record ChecksFiles (holds : List ℕ → KnownFile) (asked : Asked) (texts : CheckTexts) (end : Status) : Type 0 where
  pub framework : Framework
  pub answer : Answer
  pub certificate : Certificate
  pub of_framework : IsFrameworkOf (holds texts.file) framework
  pub of_answer : IsAnswerOf (holds texts.answer) answer
  pub of_certificate : IsCertificateOf (holds texts.certificate) certificate
  pub ends : CheckEnds framework asked answer certificate end

-- the files read as these, and the certificate is accepted
pub record AcceptsFiles (holds : List ℕ → KnownFile) (asked : Asked) (texts : CheckTexts) (read : Checked) : Type 0
  where
    pub of_framework : IsFrameworkOf (holds texts.file) (framework_of read.framework)
    pub of_answer : IsAnswerOf (holds texts.answer) read.answer
    pub of_certificate : IsCertificateOf (holds texts.certificate) read.certificate
    pub accepts : CheckEnds (framework_of read.framework) asked read.answer read.certificate Done

-- ---- the parts of a check

-- the bytes are those of the files
pub record HasCheckBytes (holds : List ℕ → KnownFile) (texts : CheckTexts) (bytes : CheckBytes) : Type 0 where
  pub framework : HasBytes (holds texts.file) bytes.framework
  pub answer : HasBytes (holds texts.answer) bytes.answer
  pub certificate : HasBytes (holds texts.certificate) bytes.certificate

-- what the bytes read as
pub record IsChecked (bytes : CheckBytes) (read : Checked) : Type 0 where
  pub of_framework : ReadsAs bytes.framework (framework_of read.framework)
  pub of_answer : AnswerReadsAs (filled_fields bytes.answer) read.answer
  pub of_certificate : CertReadsAs bytes.certificate (Ok read.certificate)

-- the first fault of the three texts, in their order
abbrev pub IsTextFault : CheckBytes → Status → Type 0
IsTextFault bytes (InputRefused (Line of line cause)) =
    ((of ≡ role.Framework 1) × IsFirstFaultIn (role.Framework 1) bytes.framework line cause)
    ⊎ (((of ≡ role.Answer) × IsSoundIn (role.Framework 1) bytes.framework
    × IsFirstFaultIn role.Answer bytes.answer line cause)
    ⊎ ((of ≡ role.Certificate) × IsSoundIn (role.Framework 1) bytes.framework × IsSoundIn role.Answer bytes.answer
    × IsFirstFaultIn role.Certificate bytes.certificate line cause))
IsTextFault bytes WantOfMemory = Unit {0}
IsTextFault bytes _ = ⊥

-- the status of a run whose answer or certificate has the fault
abbrev pub answer_status : AnswerFault → Status
answer_status (answer_fault.At line cause) = InputRefused (Line role.Answer line (cause_of.Answer cause))
answer_status answer_fault.Memory = WantOfMemory

abbrev pub certificate_status : CertFault → Status
certificate_status (certificate_fault.At line cause) = InputRefused
    (Line role.Certificate line (cause_of.Certificate cause))
certificate_status certificate_fault.Memory = WantOfMemory

-- how a check of the files may end: by reading them, for want of memory, or as it ends on what they read as
abbrev pub EndsChecking : Reading → Asked → CheckTexts → Status → Type 0
EndsChecking found asked texts end =
    StopsAtFirst found end (check_inputs texts)
    ⊎ ((end ≡ WantOfMemory) ⊎ ChecksFiles found.holds asked texts end)
