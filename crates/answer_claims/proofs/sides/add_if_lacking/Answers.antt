use Rattle.std.proofs.Common.{not, ◌∙◌, sym}
use Rattle.certificate_claims.specs.SetLiterals.{has}
use Rattle.answer_claims.proofs.SideLemmas.{kept_one, passed_one}
use Rattle.answer_claims.proofs.sides.add_if_lacking.Goals as goal

pub returns-then-lacking : goal.returns-then-lacking
returns-then-lacking c =
    kept_one (λ x. not (has c.args.set.now x)) _ _ _ (sym c.lacks-lacking.ensures
    ∙ c.if-lacking.true) c.in_ok-push.ensures.items

pub returns : goal.returns
returns c =
    passed_one (λ x. not (has c.args.set.now x)) _ _ (sym c.lacks-lacking.ensures ∙ c.if-lacking.false)
