use Rattle.std.proofs.Common.{sym, ◌∙◌}
use Rattle.std.proofs.lemmas.Bool.{false≢true}
use Rattle.edit_rules.specs.Kinds.{framework_of}
use Rattle.certificate_claims.specs.Acceptance.{PassesTest}
use Rattle.certificate_check.proofs.SetLemmas.{holds_next, fails_here}
use Rattle.certificate_check.proofs.witness.first_failing.Goals as goal

pub returns-then-not-passes : goal.returns-then-not-passes
returns-then-not-passes c =
    fails_here (λ k e. PassesTest (framework_of c.args.tests.now.framework.now) c.args.query.now c.args.row.now e) _ _ _
    c.loop-index-test.true c.index-shown-index.is c.loop-index.invariant (λ p. false≢true (sym c.if-not-passes.true
    ∙ c.in_ok-passes.ensures.1 p))

pub loop-index-preserved : goal.loop-index-preserved
loop-index-preserved c =
    holds_next (λ k e. PassesTest (framework_of c.args.tests.now.framework.now) c.args.query.now c.args.row.now e) _ _ _
    c.loop-index-test.true c.index-shown-index.is c.loop-index.invariant
    (c.in_ok-passes.ensures.0 c.if-not-passes.false)
