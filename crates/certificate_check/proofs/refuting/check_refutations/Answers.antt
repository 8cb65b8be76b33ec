use Rattle.std.proofs.Common.{refl, arith, inl}
use Rattle.certificate_check.proofs.FlawLemmas.{flaw_within, none_next, first_flaw}
use Rattle.certificate_check.proofs.refuting.check_refutations.Goals as goal

pub flaw_verdict-requires-clause-count : goal.flaw_verdict-requires-clause-count
flaw_verdict-requires-clause-count c = flaw_within _ _ c.as_slice-steps.result.now _ c.in_ok-flaw.ensures

pub returns-in-Some : goal.returns-in-Some
returns-in-Some c =
    first_flaw _ c.args.claims.now c.args.refutations.now c.loop-index.index c.index-claims-index.result
    c.index-refutations-index.result _ _ _ _ (record {
      below = c.loop-index-test.true;
      same_length = c.requires;
      claim_is = c.index-claims-index.is;
      steps_are = c.as_slice-steps.ensures;
    }) c.in_ok-flaw.ensures c.flaw_verdict.ensures c.in-Some.is c.loop-index.invariant

pub loop-index-preserved : goal.loop-index-preserved
loop-index-preserved c =
    none_next _ c.args.claims.now c.args.refutations.now c.loop-index.index c.index-claims-index.result
    c.index-refutations-index.result _ _ _ _ (record {
      below = c.loop-index-test.true;
      same_length = c.requires;
      claim_is = c.index-claims-index.is;
      steps_are = c.as_slice-steps.ensures;
    }) c.in_ok-flaw.ensures c.flaw_verdict.ensures c.in_default.is c.loop-index.invariant

pub returns : goal.returns
returns c = inl (refl, λ k lt. c.loop-index.invariant k (omega arith))
