use Rattle.edit_rules.specs.Kinds.{framework_of}
use Rattle.certificate_check.proofs.SectionLemmas.{set_failed, sets_passed}
use Rattle.certificate_check.proofs.verdict.Checked.check_sets.Goals as goal

pub returns-in-Some : goal.returns-in-Some
returns-in-Some c =
    set_failed (framework_of c.args.self.now.framework.now) c.args.self.now.query.now c.args.self.now.row.now
    c.args.self.now.shown.now
    c.args.self.now.certificate.now
    c.as_slice.result.now c.in_ok-bad.bad c.in-Some.index c.as_slice.ensures c.in-Some.is c.in_ok-bad.ensures

pub returns : goal.returns
returns c =
    sets_passed (framework_of c.args.self.now.framework.now) c.args.self.now.query.now c.args.self.now.row.now
    c.args.self.now.shown.now
    c.args.self.now.certificate.now
    c.as_slice.result.now c.in_ok-bad.bad c.in_ok-verdict.verdict c.as_slice.ensures c.in_default.is
    c.in_ok-bad.ensures c.in_ok-verdict.ensures
