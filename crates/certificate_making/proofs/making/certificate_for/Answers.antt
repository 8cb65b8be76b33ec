use Rattle.std.proofs.Common.{◌≡◌, ◌∙◌, ap, length, subst, sym}
use Rattle.edit_rules.specs.Kinds.{framework_of}
use Rattle.certificate_claims.specs.Claims.{claims, row_of}
use Rattle.answer_claims.specs.ClaimParts.{AreClaims}
use Rattle.certificate_making.specs.Making.{AreMade}
use Rattle.certificate_making.proofs.MakingLemmas.{accepted, refuted_named, row_sets, steps_long, writable}
use Rattle.certificate_making.proofs.making.certificate_for.Goals as goal

pub claims_for-requires : goal.claims_for-requires
claims_for-requires g c =
    row_sets (framework_of c.args.framework.now) c.args.query.now c.args.answer.now c.args.sets c.requires.tests

pub refutations_of-requires-clause-steps : goal.refutations_of-requires-clause-steps
refutations_of-requires-clause-steps g c =
    refuted_named (framework_of c.args.framework.now) (g.L.ReadLog.log c.args.log.now) _ c.args.steps.now c.requires.refuted

pub refutations_of-requires-clause-long : goal.refutations_of-requires-clause-long
refutations_of-requires-clause-long g c =
    let f = framework_of c.args.framework.now in
    let are = subst (λ sets. AreClaims f c.in_ok-claims.claims (claims f (row_of f c.args.query.now c.args.answer.now) sets))
    c.as_slice.ensures c.in_ok-claims.ensures in
    steps_long f (g.L.ReadLog.log c.args.log.now) (claims f (row_of f c.args.query.now c.args.answer.now) c.args.sets)
    c.args.steps.now c.in_ok-claims.claims are c.requires.refuted ∙ ap length (sym c.as_slice-2.ensures)

pub returns-clause-accepted : goal.returns-clause-accepted
returns-clause-accepted g c =
    let f = framework_of c.args.framework.now in
    let are = subst (λ sets. AreClaims f c.in_ok-claims.claims (claims f (row_of f c.args.query.now c.args.answer.now) sets))
    c.as_slice.ensures c.in_ok-claims.ensures in
    let made = subst (λ h. AreMade h (g.L.ReadLog.log c.args.log.now) c.in_ok-claims.claims c.args.steps.now
    c.in_ok-refutations.refutations) (sym c.requires.same)
    (subst (λ parts. AreMade (g.L.ReadLog.framework c.args.log.now) (g.L.ReadLog.log c.args.log.now) parts c.args.steps.now
    c.in_ok-refutations.refutations) c.as_slice-2.ensures c.in_ok-refutations.ensures.made) in
    accepted f c.args.query.now c.args.answer.now (g.L.ReadLog.log c.args.log.now) c.args.sets c.args.steps.now
    c.in_ok-claims.claims c.in_ok-refutations.refutations c.kind-form.ensures.form c.requires.tests c.requires.refuted are
    made

pub returns-clause-writable : goal.returns-clause-writable
returns-clause-writable g c =
    let f = framework_of c.args.framework.now in
    let are = subst (λ sets. AreClaims f c.in_ok-claims.claims (claims f (row_of f c.args.query.now c.args.answer.now) sets))
    c.as_slice.ensures c.in_ok-claims.ensures in
    let made = subst (λ h. AreMade h (g.L.ReadLog.log c.args.log.now) c.in_ok-claims.claims c.args.steps.now
    c.in_ok-refutations.refutations) (sym c.requires.same)
    (subst (λ parts. AreMade (g.L.ReadLog.framework c.args.log.now) (g.L.ReadLog.log c.args.log.now) parts c.args.steps.now
    c.in_ok-refutations.refutations) c.as_slice-2.ensures c.in_ok-refutations.ensures.made) in
    writable f c.args.query.now c.args.answer.now (g.L.ReadLog.log c.args.log.now) c.args.sets c.args.steps.now
    c.in_ok-claims.claims c.in_ok-refutations.refutations c.kind-form.ensures.form c.requires.tests c.requires.refuted are
    made
