use Rattle.std.proofs.Common.{◌∙◌, ap, ◌++◌, ◌∷◌, []}
use Rattle.meaning_atoms.specs.Literals.{negated}
use Rattle.core_logs.proofs.Fronts.{blank, mapped_more}
use Rattle.core_logs.proofs.checking.negations.Goals as goal

pub loop-literal-preserved : goal.loop-literal-preserved
loop-literal-preserved c =
    c.in_ok-push.ensures.items
    ∙ (ap (λ x. c.loop-literal.negations.items ++ x ∷ []) c.opposite.ensures
    ∙ mapped_more negated c.args.clause.now c.loop-literal.negations.items c.loop-literal.literal-index blank
    c.loop-literal-test.true c.loop-literal.invariant)
