use Rattle.af_axioms.proofs.Values.{gap_value}
use Rattle.af_axioms.proofs.fact.fact_value.Goals as goal

pub returns-in-Gap-clause-some : goal.returns-in-Gap-clause-some
returns-in-Gap-clause-some c = gap_value _ _ c.in-Gap.a c.in-Gap.i c.in-Gap.j _ c.in-Gap.is c.has_gap.ensures
