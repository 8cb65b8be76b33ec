use Rattle.std.proofs.Common.{[], ◌∷◌, refl, sym, subst}
use Rattle.meaning_atoms.specs.declared.atom.Atom.TheVariants.{Ad}
use Rattle.meaning_atoms.specs.Literals.{affirmed}
use Rattle.certificate_claims.specs.Claims.{claim_of, ideal_claims}
use Rattle.certificate_claims.specs.SetLiterals.{attacked}
use Rattle.edit_rules.specs.Kinds.{framework_of}
use Rattle.answer_claims.specs.ClaimParts.{AreClaims}
use Rattle.answer_claims.proofs.ClaimLemmas.{one_is, claims_push}
use Rattle.answer_claims.proofs.claims.ideal_pair.Goals as goal

pub returns : goal.returns
returns c =
    let f = framework_of c.args.framework.now in
    let free : AreClaims f c.in_ok-list.list (claim_of (affirmed Ad ∷ []) (attacked f c.args.set.now ∷ []) ∷ []) =
    one_is f _ _ _ _ c.in_ok-list.ensures
    (rw (c.in_ok-fixed.ensures, c.yes.ensures, c.in_ok-sides.ensures) refl) (c.few_goals-free.ensures f) in
    subst (λ xs. AreClaims f xs (ideal_claims f (c.args.set.now ∷ c.args.others.now))) (sym c.in_ok-push.ensures.ok)
    (claims_push f _ _ _ _ free (c.in_ok-ideal.ensures f c.args.others.now c.in_ok-hit.ensures))
