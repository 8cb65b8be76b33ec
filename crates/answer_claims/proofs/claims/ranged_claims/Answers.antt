use Rattle.std.proofs.Common.{refl, arith, subst, [], ◌∷◌, ◌++◌, map}
use Rattle.std.proofs.lemmas.List.{take_all}
use Rattle.edit_rules.specs.Kinds.{framework_of}
use Rattle.certificate_claims.specs.Claims.{range_cover, range_free}
use Rattle.answer_claims.specs.ClaimParts.{AreClaims}
use Rattle.answer_claims.proofs.ClaimLemmas.{one_is, claims_more}
use Rattle.answer_claims.proofs.claims.ranged_claims.Goals as goal

pub loop-index-init : goal.loop-index-init
loop-index-init c =
    one_is _ _ _ _ _ c.in_ok-list.ensures (rw (c.in_ok-fixed.ensures, c.of_mode.ensures, c.in_ok-sides.ensures) refl)
    (c.few_goals-cover.ensures (framework_of c.args.framework.now))

pub loop-index-preserved : goal.loop-index-preserved
loop-index-preserved c =
    let f = framework_of c.args.framework.now in
    claims_more f (range_free f c.args.mode c.args.bad) (range_cover f c.args.mode (c.args.bad ∷ []) c.args.sets.now ∷ []) _ _ _ _
    c.index-sets-index.result _ _ c.loop-index-test.true c.index-sets-index.is c.loop-index.invariant refl
    (c.in_ok-free.ensures f) c.in_ok-push.ensures.ok

pub returns : goal.returns
returns c =
    let f = framework_of c.args.framework.now in
    subst (λ xs. AreClaims f c.loop-index.list (range_cover f c.args.mode (c.args.bad ∷ []) c.args.sets.now ∷ []
    ++ map (range_free f c.args.mode c.args.bad) xs)) (take_all c.loop-index.index c.args.sets.now
    (omega arith)) c.loop-index.invariant
