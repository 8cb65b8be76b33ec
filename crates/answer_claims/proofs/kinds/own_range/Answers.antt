use Rattle.answer_claims.proofs.RangeLemmas.{own_is_range}
use Rattle.answer_claims.proofs.kinds.own_range.Goals as goal

pub returns : goal.returns
returns c = λ f. own_is_range f c.args.set.now c.in_ok-range.range c.in_ok-range.ensures.same
