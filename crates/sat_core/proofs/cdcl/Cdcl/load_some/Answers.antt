use Rattle.std.proofs.Common.{length, arith, ap, sym, subst}
use Rattle.sat_core.specs.Runs.{IsResting}
use Rattle.sat_core.proofs.Fronting.{fronted_none}
use Rattle.sat_core.proofs.Holding.{active_step, held_loaded}
use Rattle.sleeping_clauses.specs.Sleeping.{AreSleepers}
use Rattle.sat_core.proofs.cdcl.Cdcl.load_some.Goals as goal

pub counts_of-requires : goal.counts_of-requires
counts_of-requires c = λ number there.
    let h = c.requires.rest.held in
    active_step _ _ _ _ _ number h.shared
    (h.shared.awake_of number (rw c.deref-2.ensures.value at there))

pub load-requires-clause-steps : goal.load-requires-clause-steps
load-requires-clause-steps c = λ number there.
    let h = c.requires.rest.held in
    active_step _ _ _ _ _ number h.shared
    (h.shared.awake_of number (rw c.deref-4.ensures.value at there))

pub load-requires-clause-asleep : goal.load-requires-clause-asleep
load-requires-clause-asleep c =
    subst (AreSleepers c.args.self.now.logged.log.steps) (sym c.deref-6.ensures.value)
    c.requires.rest.held.shared.sleepers

pub returns-clause-rest : goal.returns-clause-rest
returns-clause-rest c =
    let loaded = c.in_ok-loaded.loaded in
    let g = rw (c.deref-4.ensures.value, c.deref-6.ensures.value) at c.in_ok-loaded.ensures in
    record {
      held = held_loaded c.args.self.now.decisions.search loaded _ _ _ _
          (let more = c.if-vars.false in let is = c.vars-vars.ensures.vars in let new = c.vars.ensures.vars in
          omega (arith, more, is, new)) g c.requires.rest.held;
      resting = subst (λ xs. IsResting xs loaded.search) (sym c.requires.front) (record {
        fronted = fronted_none loaded.search g.none g.starts g.room;
        few = let e = ap length g.starts in omega (arith, e);
      });
    }
