use Rattle.std.proofs.Common.{◌∙◌, sym}
use Rattle.edit_rules.specs.Kinds.{framework_of}
use Rattle.certificate_check.proofs.SectionLemmas.{count_failed, count_passed}
use Rattle.certificate_check.proofs.verdict.Checked.check_refutation_count.Goals as goal

pub returns-then-refutations-len : goal.returns-then-refutations-len
returns-then-refutations-len c =
    count_failed (framework_of c.args.self.now.framework.now) c.args.self.now.query.now c.args.self.now.row.now
    c.args.self.now.shown.now
    c.args.self.now.certificate.now
    c.in_ok-claims.claims _ _ c.as_slice.ensures c.in_ok-claims.ensures c.as_slice-refutations.ensures
    (λ long. c.if-refutations-len.true (long ∙ sym c.len.ensures))

pub returns : goal.returns
returns c =
    count_passed (framework_of c.args.self.now.framework.now) c.args.self.now.query.now c.args.self.now.row.now
    c.args.self.now.shown.now
    c.args.self.now.certificate.now
    c.in_ok-claims.claims _ _ _ _ c.as_slice.ensures c.in_ok-claims.ensures c.as_slice-refutations.ensures
    c.as_slice-2.ensures (c.if-refutations-len.false ∙ c.len.ensures) c.in_ok-verdict.ensures
