use Rattle.std.proofs.Common.{not, ◌∙◌, sym, ap, ◌++◌, ◌∷◌, []}
use Rattle.certificate_claims.specs.SetLiterals.{has}
use Rattle.certificate_claims.specs.Words.{literal_of}
use Rattle.goal_lists.proofs.Lacking.{said_one, passed_one}
use Rattle.goal_lists.proofs.literal_lists.push_if_lacking.Goals as goal

pub returns-then-lacking : goal.returns-then-lacking
returns-then-lacking c =
    said_one (λ x. not (has c.args.set.now x)) (literal_of c.args.word) c.args.number _ _
    (sym c.lacks-lacking.ensures ∙ c.if-lacking.true)
    (c.in_ok-push.ensures.items ∙ ap (λ x. c.args.clause.now.items ++ x ∷ []) c.literal.ensures)

pub returns : goal.returns
returns c =
    passed_one (λ x. not (has c.args.set.now x)) (literal_of c.args.word) c.args.number _
    (sym c.lacks-lacking.ensures ∙ c.if-lacking.false)
