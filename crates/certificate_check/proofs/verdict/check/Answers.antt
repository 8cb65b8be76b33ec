use Rattle.std.proofs.Common.{◌∙◌, subst}
use Rattle.edit_rules.specs.Kinds.{framework_of}
use Rattle.certificate_claims.specs.Verdicts.{IsVerdict}
use Rattle.certificate_claims.proofs.Right.{accepted_right}
use Rattle.certificate_claims.proofs.Verdicts.{accepted_is_verdict}
use Rattle.certificate_check.proofs.RowLemmas.{answer_known, answer_of_kind}
use Rattle.certificate_check.proofs.SectionLemmas.{verdict_from}
use Rattle.certificate_check.proofs.verdict.check.Goals as goal

pub check_row-requires-clause-sets : goal.check_row-requires-clause-sets
check_row-requires-clause-sets c = rw (c.in_ok-row.ensures, c.as_slice.ensures, c.in_ok-shown.ensures)
    (answer_known (framework_of c.args.framework.now) c.args.query.now c.args.answer.now).1

pub check_row-requires-clause-tested : goal.check_row-requires-clause-tested
check_row-requires-clause-tested c = rw c.in_ok-row.ensures
    (answer_known (framework_of c.args.framework.now) c.args.query.now c.args.answer.now).0

pub check_row-requires-clause-kind : goal.check_row-requires-clause-kind
check_row-requires-clause-kind c = rw c.in_ok-row.ensures
    (answer_of_kind (framework_of c.args.framework.now) c.args.query.now c.args.answer.now)

pub returns : goal.returns
returns c =
    let f = framework_of c.args.framework.now in
    let found = verdict_from f c.args.query.now c.args.answer.now c.args.certificate.now c.in_ok-row.row _
    c.in_ok-verdict.verdict c.in_ok-row.ensures (c.as_slice.ensures ∙ c.in_ok-shown.ensures) c.in_ok-verdict.ensures in
    record {
      verdict = found;
      right = λ accepted. accepted_right f c.args.query.now c.args.answer.now c.args.certificate.now
          c.kind-kind.ensures.form
          ((accepted_is_verdict f c.args.query.now c.args.answer.now c.args.certificate.now).0
          (subst (λ v. IsVerdict f c.args.query.now c.args.answer.now c.args.certificate.now v) accepted found));
    }
