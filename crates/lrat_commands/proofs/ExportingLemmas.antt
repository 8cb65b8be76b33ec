-- How an export ends on what its files read as.
use Rattle.std.proofs.Common.{◌≡◌, ◌⊎◌, ℕ, List, inl, inr, Result, Ok, Err}
use Rattle.std.specs.Prelude.{IfErr, IfOk, IsSome}
use Rattle.argue_outside.specs.Outside.{KnownFile}
use Rattle.argue_words.specs.Words.{CheckTexts}
use Rattle.semantics.specs.Frameworks.{Framework}
use Rattle.iccma_tasks.specs.Tasks.{Asked}
use Rattle.iccma_tasks.specs.declared.answer.Answer.{Answer}
use Rattle.certificate_claims.specs.declared.certificate.Certificate.{Certificate}
use Rattle.edit_rules.specs.Kinds.{framework_of}
use Rattle.refutation_logs.specs.declared.texts.Exported.{Exported}
use Rattle.argue_commands.specs.Checks.{AcceptsFiles, CheckEnds, EndsChecking}
use Rattle.argue_commands.specs.Inputs.{Reading}
use Rattle.argue_commands.specs.Texts.{common_text}
use Rattle.argue_commands.specs.declared.checking.Checked.{Checked}
use Rattle.argue_commands.specs.declared.ended.Refusal.TheVariants.{Line, NoRefutation, Query, UnknownName}
use Rattle.argue_commands.specs.declared.ended.Status.{Status}
use Rattle.argue_commands.specs.declared.ended.Status.TheVariants.{Done, Usage, InputRefused, ReadFault, WriteFault}
use Rattle.argue_commands.specs.declared.ended.Status.TheVariants.{WantOfMemory, Unknown, Limit, Rejected}
use Rattle.lrat_commands.specs.Exporting.{EndsExporting, ExportEnds, IsExported, IsTextFrom}
use Rattle.lrat_commands.specs.declared.exporting.Exporting.{Exporting}

-- what ends the check before it is done ends the export
pub check_stops : (f : Framework) (asked : Asked) (answer : Answer) (certificate : Certificate) (number : ℕ)
    (end : Status) → IsSome (common_text end) → CheckEnds f asked answer certificate end
    → ExportEnds f asked answer certificate number end
check_stops f asked answer certificate number Done told ends = absurd (cc)
check_stops f asked answer certificate number Usage told ends = ends
check_stops f asked answer certificate number (InputRefused (Line of line cause)) told ends = ends
check_stops f asked answer certificate number (InputRefused (Query fault)) told ends = ends
check_stops f asked answer certificate number (InputRefused UnknownName) told ends = ends
check_stops f asked answer certificate number (InputRefused (NoRefutation k)) told ends = absurd ends
check_stops f asked answer certificate number (ReadFault of) told ends = ends
check_stops f asked answer certificate number WriteFault told ends = ends
check_stops f asked answer certificate number WantOfMemory told ends = ends
check_stops f asked answer certificate number Unknown told ends = ends
check_stops f asked answer certificate number (Limit l) told ends = ends
check_stops f asked answer certificate number (Rejected rejection) told ends = ends

pub check_ends : (found : Reading) (exporting : Exporting) (texts : CheckTexts) (end : Status)
    → IsSome (common_text end) → EndsChecking found exporting.query texts end → EndsExporting found exporting texts end
check_ends found exporting texts end told (inl stops) = inl stops
check_ends found exporting texts end told (inr (inl memory)) = inr (inl memory)
check_ends found exporting texts end told (inr (inr checks)) = inr (inr (record {
  framework = checks.framework;
  answer = checks.answer;
  certificate = checks.certificate;
  of_framework = checks.of_framework;
  of_answer = checks.of_answer;
  of_certificate = checks.of_certificate;
  ends = check_stops checks.framework exporting.query checks.answer checks.certificate exporting.number end told
      checks.ends;
}))

-- what is said of what was read is said of the files
pub exported_ok : (holds : List ℕ → KnownFile) (exporting : Exporting) (texts : CheckTexts) (read : Checked)
    (r : Result Exported Status) → AcceptsFiles holds exporting.query texts read
    → IfOk r (IsTextFrom read exporting) → IfOk r (IsExported holds exporting texts)
exported_ok holds exporting texts read (Ok e) accepts is = record {
  framework = framework_of read.framework;
  answer = read.answer;
  certificate = read.certificate;
  of_framework = accepts.of_framework;
  of_answer = accepts.of_answer;
  of_certificate = accepts.of_certificate;
  accepts = accepts.accepts;
  text = is;
}
exported_ok holds exporting texts read (Err end) accepts is = tt

pub exported_err : (found : Reading) (exporting : Exporting) (texts : CheckTexts) (read : Checked)
    (r : Result Exported Status) → AcceptsFiles found.holds exporting.query texts read
    → IfErr r (λ end. (end ≡ WantOfMemory) ⊎ ExportEnds (framework_of read.framework) exporting.query read.answer
    read.certificate exporting.number end)
    → IfErr r (EndsExporting found exporting texts)
exported_err found exporting texts read (Ok e) accepts ends = tt
exported_err found exporting texts read (Err end) accepts (inl memory) = inr (inl memory)
exported_err found exporting texts read (Err end) accepts (inr ends) = inr (inr (record {
  framework = framework_of read.framework;
  answer = read.answer;
  certificate = read.certificate;
  of_framework = accepts.of_framework;
  of_answer = accepts.of_answer;
  of_certificate = accepts.of_certificate;
  ends = ends;
}))
