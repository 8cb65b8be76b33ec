use Rattle.answer_claims.proofs.RangeLemmas.{is_range}
use Rattle.answer_claims.proofs.kinds.af_range.Goals as goal

pub returns : goal.returns
returns c = is_range _ _ _ c.in_ok-range.ensures
