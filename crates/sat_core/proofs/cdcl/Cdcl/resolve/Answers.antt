use Rattle.sat_core.proofs.Holding.{held_on}
use Rattle.sat_core.proofs.Resolving.{resolves_on}
use Rattle.std.proofs.Common.{refl}
use Rattle.sat_core.proofs.cdcl.Cdcl.resolve.Goals as goal

pub returns-in-Ok-learn_from-clause-kept : goal.returns-in-Ok-learn_from-clause-kept
returns-in-Ok-learn_from-clause-kept c = record {
  held = held_on _ _ _ _ _ _ c.count_conflict.ensures c.in-Ok-learn_from.ensures.kept.held;
  fronted = (c.count_conflict.ensures.run _ c.args.assumptions.now c.in-Ok-learn_from.ensures.run).fronted;
}

pub returns-in-Ok-learn_from-clause-resolves : goal.returns-in-Ok-learn_from-clause-resolves
returns-in-Ok-learn_from-clause-resolves c =
    resolves_on _ _ _ _ _ _ _ _ refl refl
    (c.count_conflict.ensures.run _ c.args.assumptions.now c.in-Ok-learn_from.ensures.run)
    c.in-Ok-learn_from.ensures.goes c.in-Ok-learn_from.ensures.goes_on
