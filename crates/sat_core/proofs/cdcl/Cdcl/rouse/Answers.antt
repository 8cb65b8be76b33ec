use Rattle.std.proofs.Common.{◌≡◌, ◌++◌, ◌∷◌, [], ◌∙◌, List, length, arith, ap, refl, rules}
use Rattle.sleeping_clauses.specs.declared.sleepers.Sleeper.{Sleeper}
use Rattle.sat_core.proofs.Running.{resting_stays, resting_more}
use Rattle.sat_core.proofs.Holding.{held_as, held_woken, fewer_asleep}
use Rattle.sat_core.proofs.cdcl.Cdcl.rouse.Goals as goal

pub clause-requires : goal.clause-requires
clause-requires c =
    let x = c.sleeper_at-sleeper.result in
    let at = rw c.deref.ensures.value at c.sleeper_at-sleeper.ensures in
    (c.requires.rest.held.shared.sleepers x (c.args.index, c.requires.within, at x)).step

pub returns-in_err-add-clause-rest : goal.returns-in_err-add-clause-rest
returns-in_err-add-clause-rest c =
    let stays = c.in_err-add.ensures.err in
    record {
      held = held_as _ _ _ _ _ _ _ _ c.args.self.now.logged.log _ stays.clauses stays.assigned.vars
          c.reserve.ensures.items refl refl refl
          c.requires.rest.held;
      resting = resting_stays _ _ _ c.vars-form.ensures.form stays c.requires.rest.resting;
    }

pub returns-clause-rest : goal.returns-clause-rest
returns-clause-rest c =
    let gains = c.in_ok-add.ensures.ok in
    let x = c.sleeper_at-sleeper.result in
    let at = rw c.deref.ensures.value at c.sleeper_at-sleeper.ensures in
    let pushed : c.push.new.self.items ≡ c.args.self.now.logged.awake.items ++ x.step ∷ [] = search rules in
    record {
      held = held_woken _ _ _ _ _ _ _ _ _ c.args.index x c.requires.within at
          (c.deref-2.ensures.value ∙ (c.in_ok-lits.ensures ∙ c.clause.ensures.clause)) gains.clauses
          gains.assigned.vars pushed c.remove.ensures.items c.requires.rest.held;
      resting = resting_more _ _ _ _ _ c.vars-form.ensures.form gains c.requires.rest.resting;
    }

pub returns-clause-fewer : goal.returns-clause-fewer
returns-clause-fewer c =
    let long = fewer_asleep c.args.self.now.logged.asleep.items c.args.index c.requires.within in
    let e = ap (λ (xs : List Sleeper). length xs) c.remove.ensures.items in
    omega (arith, long, e)
