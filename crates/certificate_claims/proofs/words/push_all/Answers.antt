use Rattle.std.proofs.Common.{◌∙◌, ap, ◌++◌, ◌∷◌, []}
use Rattle.certificate_claims.specs.Words.{literal_of}
use Rattle.certificate_claims.proofs.WordLemmas.{mapped_more}
use Rattle.certificate_claims.proofs.words.push_all.Goals as goal

pub loop-number-preserved : goal.loop-number-preserved
loop-number-preserved c =
    mapped_more (literal_of c.args.word) _ _ _ _ c.loop-number.number-index 0 c.loop-number-test.true
    c.loop-number.invariant
    (c.in_ok-push.ensures.items ∙ ap (λ x. c.loop-number.clause.items ++ x ∷ []) c.literal.ensures)
