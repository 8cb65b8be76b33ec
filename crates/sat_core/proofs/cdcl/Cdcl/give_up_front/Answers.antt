use Rattle.std.proofs.Common.{sym, subst}
use Rattle.sat_core.specs.Runs.{IsResting}
use Rattle.sat_core.proofs.Running.{resting_none}
use Rattle.sat_core.proofs.Holding.{held_equal}
use Rattle.sat_core.proofs.cdcl.Cdcl.give_up_front.Goals as goal

pub returns-clause-rest : goal.returns-clause-rest
returns-clause-rest c = record {
  held = held_equal _ _ _ _ _ _ c.back_to.ensures.clauses c.back_to.ensures.vars c.requires.kept.held;
  resting = subst (λ xs. IsResting xs c.back_to.new.self.search) (sym c.clear.ensures.items)
      (resting_none _ _ _ c.requires.kept.fronted c.back_to.ensures);
}
