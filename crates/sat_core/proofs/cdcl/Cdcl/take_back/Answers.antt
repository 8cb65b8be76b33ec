use Rattle.sat_core.proofs.Holding.{held_equal}
use Rattle.sat_core.proofs.cdcl.Cdcl.take_back.Goals as goal

pub returns-clause-rest : goal.returns-clause-rest
returns-clause-rest c = record {
  held = held_equal _ _ _ _ _ _ c.back_to_front.ensures.clauses c.back_to_front.ensures.vars c.requires.kept.held;
  resting = c.back_to_front.ensures.resting _ c.requires.kept.fronted;
}
