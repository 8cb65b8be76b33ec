use Rattle.std.proofs.Common.{◌∙◌, arith, get_or, refl, subst, sym}
use Rattle.std.proofs.lemmas.Bool.{false≢true}
use Rattle.std.proofs.lemmas.List.{get_or_default}
use Rattle.certificate_claims.specs.Acceptance.{no_claim as no_table_claim}
use Rattle.edit_rules.specs.Kinds.{framework_of}
use Rattle.answer_claims.specs.declared.claim.Claim.{Claim}
use Rattle.answer_claims.specs.ClaimParts.{IsClaimOf}
use Rattle.answer_claims.proofs.ClaimLemmas.{claim_at_index, same_length}
use Rattle.certificate_check.specs.Flaws.{no_claim}
use Rattle.core_answers.proofs.showing.are_refuted.Goals as goal

pub returns-then-not-refuted : goal.returns-then-not-refuted
returns-then-not-refuted c = λ list all.
    let f = framework_of c.args.framework.now in
    let claims = c.args.claims.now in
    let at = c.loop-index.index in
    let lt = c.loop-index-test.true in
    let here : IsClaimOf f c.index-claims-index.result (get_or list at no_table_claim) =
    subst (λ (x : Claim). IsClaimOf f x (get_or list at no_table_claim))
    (sym (c.index-claims-index.is ∙ get_or_default claims at c.index-claims-index.result no_claim lt))
    (claim_at_index f claims list at no_claim no_table_claim all lt) in (
      λ t. absurd (false≢true t),
      λ h. absurd (false≢true (sym c.if-not-refuted.true
          ∙ (c.in_ok-refuted.ensures (get_or list at no_table_claim) here).1
          (h at (omega (arith, lt, same_length f claims list all))))),
    )

pub returns : goal.returns
returns c = λ list all.
    let f = framework_of c.args.framework.now in
    let claims = c.args.claims.now in (
      λ t k lt.
          c.loop-index.invariant k (omega (arith, lt, same_length f claims list all, c.loop-index-test.false))
          (get_or list k no_table_claim)
          (claim_at_index f claims list k no_claim no_table_claim all
          (omega (arith, lt, same_length f claims list all))),
      λ h. refl,
    )
