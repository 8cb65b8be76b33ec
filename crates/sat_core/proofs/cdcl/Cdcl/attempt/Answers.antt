use Rattle.std.proofs.Common.{refl}
use Rattle.sat_core.specs.Turns.{state_of}
use Rattle.sat_core.proofs.Descending.{model_of}
use Rattle.sat_core.proofs.Holding.{held_on}
use Rattle.sat_core.proofs.cdcl.Cdcl.attempt.Goals as goal

pub resolve-requires-clause-kept : goal.resolve-requires-clause-kept
resolve-requires-clause-kept c = record {
  held = held_on _ _ _ _ _ _ c.in-Some.ensures.on c.requires.kept.held;
  fronted = (c.in-Some.ensures.on.run c.args.self.now.front.items c.args.assumptions.now c.requires.run).fronted;
}

pub resolve-requires-clause-run : goal.resolve-requires-clause-run
resolve-requires-clause-run c = c.in-Some.ensures.on.run c.args.self.now.front.items c.args.assumptions.now
    c.requires.run

pub returns-in-None-clause-kept : goal.returns-in-None-clause-kept
returns-in-None-clause-kept c = record {
  held = held_on _ _ _ _ _ _ c.in-None.ensures.on c.requires.kept.held;
  fronted = (c.in-None.ensures.on.run c.args.self.now.front.items c.args.assumptions.now c.requires.run).fronted;
}

pub returns-in-None-clause-resolves : goal.returns-in-None-clause-resolves
returns-in-None-clause-resolves c =
    let on = c.in-None.ensures.on in
    let found = c.in-None.ensures.found in (
      refl,
      refl,
      model_of (state_of c.args.self.now) c.args.self.now.logged.awake.items c.args.self.now.logged.asleep.items
          c.args.self.now.front.items c.decide_until_conflict.new.self.search c.args.assumptions.now
          (held_on _ _ _ _ _ _ on c.requires.kept.held) c.len-log.ensures.form c.vars-form.ensures.form
          (on.run c.args.self.now.front.items c.args.assumptions.now c.requires.run) found.0 found.1,
    )
