use Rattle.edit_rules.specs.Kinds.{framework_of}
use Rattle.certificate_check.proofs.RowLemmas.{tested_sets}
use Rattle.certificate_check.proofs.SectionLemmas.{witness_failed, witnesses_passed}
use Rattle.certificate_check.proofs.verdict.Checked.check_witnesses.Goals as goal

pub check_order-requires : goal.check_order-requires
check_order-requires c = tested_sets (framework_of c.args.self.now.framework.now) c.args.self.now.query.now
    c.args.self.now.row.now
    c.args.self.now.shown.now c.requires.sets c.requires.kind (rw c.in_default.is at c.in_ok-bad.ensures)

pub returns-in-Some : goal.returns-in-Some
returns-in-Some c =
    witness_failed (framework_of c.args.self.now.framework.now) c.args.self.now.query.now c.args.self.now.row.now
    c.args.self.now.shown.now
    c.args.self.now.certificate.now
    c.in_ok-bad.bad c.in-Some.index c.in-Some.is c.in_ok-bad.ensures

pub returns : goal.returns
returns c =
    witnesses_passed (framework_of c.args.self.now.framework.now) c.args.self.now.query.now c.args.self.now.row.now
    c.args.self.now.shown.now
    c.args.self.now.certificate.now
    c.in_ok-bad.bad c.in_ok-verdict.verdict c.in_default.is c.in_ok-bad.ensures c.in_ok-verdict.ensures
