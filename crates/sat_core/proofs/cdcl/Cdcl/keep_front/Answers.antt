use Rattle.plain_lits.specs.Literals.{negation}
use Rattle.clause_watches.proofs.Fronts.{from_front}
use Rattle.sat_core.proofs.cdcl.Cdcl.keep_front.Goals as goal

pub set_front-requires-clause-plain : goal.set_front-requires-clause-plain
set_front-requires-clause-plain c = λ l there against.
    c.requires.plain l (from_front c.args.size c.args.assumptions.now l there)
    (from_front c.args.size c.args.assumptions.now (negation l) against)
