use Rattle.std.proofs.Common.{◌∙◌, ap, ◌++◌}
use Rattle.answer_claims.proofs.RangeLemmas.{lacks_range}
use Rattle.answer_claims.proofs.sides.push_wider.Goals as goal

pub returns : goal.returns
returns c = c.in_ok-push_lacking.ensures ∙ ap (λ xs. c.args.clause.now.items ++ xs)
    (lacks_range _ _ _ c.in_ok-range.ensures)
