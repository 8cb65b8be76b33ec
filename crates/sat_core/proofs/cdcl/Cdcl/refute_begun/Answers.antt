use Rattle.sat_core.proofs.Holding.{held_on}
use Rattle.sat_core.proofs.cdcl.Cdcl.refute_begun.Goals as goal

pub derive_core_with_room-requires-clause-kept : goal.derive_core_with_room-requires-clause-kept
derive_core_with_room-requires-clause-kept c = record {
  held = held_on _ _ _ _ _ _ c.in-Some.ensures.on c.requires.kept.held;
  fronted = (c.in-Some.ensures.on.run c.args.self.now.front.items c.args.assumptions.now c.requires.run).fronted;
}

pub derive_core_with_room-requires-clause-run : goal.derive_core_with_room-requires-clause-run
derive_core_with_room-requires-clause-run c = c.in-Some.ensures.on.run c.args.self.now.front.items
    c.args.assumptions.now c.requires.run

pub returns-in-None-clause-kept : goal.returns-in-None-clause-kept
returns-in-None-clause-kept c = record {
  held = held_on _ _ _ _ _ _ c.in-None.ensures.on c.requires.kept.held;
  fronted = (c.in-None.ensures.on.run c.args.self.now.front.items c.args.assumptions.now c.requires.run).fronted;
}
