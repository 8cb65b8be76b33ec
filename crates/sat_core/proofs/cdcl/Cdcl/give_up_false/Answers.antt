use Rattle.lists.proofs.Membership.{Contains-nil}
use Rattle.plain_lits.specs.Literals.{negation}
use Rattle.sat_core.proofs.cdcl.Cdcl.give_up_false.Goals as goal

pub returns-clause-not_false : goal.returns-clause-not_false
returns-clause-not_false c = λ l there bad.
    Contains-nil (negation l) (c.in_ok-set_front.ensures.lits (negation l) bad)
