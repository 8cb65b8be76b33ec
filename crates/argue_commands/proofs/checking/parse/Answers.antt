use Rattle.std.proofs.Common.{sym, subst, Err}
use Rattle.edit_rules.specs.Kinds.{framework_of}
use Rattle.framework_text.specs.FrameworkText.{ReadsAs}
use Rattle.certificate_text.specs.Reading.{IsRead}
use Rattle.iccma_tasks.specs.AnswerText.{IsToldOf, filled_fields, ReadsAs as AnswerReadsAs}
use Rattle.argue_commands.specs.Checks.{IsTextFault}
use Rattle.argue_commands.proofs.CheckLemmas.{answer_fault_first, certificate_fault_first}
use Rattle.argue_commands.proofs.checking.parse.Goals as goal

pub returns-in-Err-read_answer-clause-err : goal.returns-in-Err-read_answer-clause-err
returns-in-Err-read_answer-clause-err c =
    let f = framework_of c.in-Ok.framework in
    subst (IsTextFault c.args.bytes.now) (sym c.answer_refused.ensures)
    (answer_fault_first c.args.bytes.now c.in-Err-read_answer.fault f
    (subst (λ b. ReadsAs b f) c.as_slice.ensures c.in-Ok.ensures.ok)
    (subst (λ b. IsToldOf b c.in-Err-read_answer.fault) c.as_slice-2.ensures c.in-Err-read_answer.ensures.fault))

pub returns-in-Err-read_certificate-clause-err : goal.returns-in-Err-read_certificate-clause-err
returns-in-Err-read_certificate-clause-err c =
    let f = framework_of c.in-Ok.framework in
    subst (IsTextFault c.args.bytes.now) (sym c.certificate_refused.ensures)
    (certificate_fault_first c.args.bytes.now c.in-Err-read_certificate.fault f c.in-Ok-read_answer.answer
    (subst (λ b. ReadsAs b f) c.as_slice.ensures c.in-Ok.ensures.ok)
    (subst (λ b. AnswerReadsAs (filled_fields b) c.in-Ok-read_answer.answer) c.as_slice-2.ensures
    c.in-Ok-read_answer.ensures.answer)
    (subst (λ b. IsRead b (Err c.in-Err-read_certificate.fault)) c.as_slice-3.ensures
    c.in-Err-read_certificate.ensures.read))
