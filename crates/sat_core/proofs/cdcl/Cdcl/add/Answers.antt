use Rattle.std.proofs.Common.{◌≡◌, ◌++◌, ◌∷◌, [], length, length-append, ap, sym, subst, ◌∙◌, refl, arith, rules}
use Rattle.std.specs.Prelude.{Contains}
use Rattle.sat_core.proofs.Running.{resting_stays, resting_more}
use Rattle.sat_core.proofs.Searching.{recorded_of}
use Rattle.sat_core.proofs.Holding.{held_as, held_recorded}
use Rattle.sat_core.proofs.Keeping.{keeps_logs, keeps_recorded, taken_back}
use Rattle.sat_core.proofs.cdcl.Cdcl.add.Goals as goal

pub take_back-requires : goal.take_back-requires
take_back-requires c =
    let r = recorded_of _ _ c.args.clause c.args.how _ c.in_ok-step.ensures.ok in
    omega (arith, ap length r.steps, length-append c.args.self.now.logged.log.steps (r.step ∷ []))

pub returns-in-Err-add-clause-rest : goal.returns-in-Err-add-clause-rest
returns-in-Err-add-clause-rest c =
    let stays = c.in-Err-add.ensures.err in
    let r = recorded_of _ _ c.args.clause c.args.how _ c.in_ok-step.ensures.ok in
    let log = taken_back c.args.self.now.logged.log _ _ c.args.clause _ r c.take_back.ensures in
    record {
      held = held_as _ _ _ _ _ _ _ _ c.args.self.now.logged.log _ stays.clauses stays.assigned.vars
          c.reserve-2.ensures.items refl c.reserve.ensures.items log c.requires.rest.held;
      resting = resting_stays _ _ _ c.vars-form.ensures.form stays c.requires.rest.resting;
    }

pub returns-in-Err-add-clause-keeps : goal.returns-in-Err-add-clause-keeps
returns-in-Err-add-clause-keeps c =
    let r = recorded_of _ _ c.args.clause c.args.how _ c.in_ok-step.ensures.ok in
    keeps_logs _ _ (taken_back c.args.self.now.logged.log _ _ c.args.clause _ r c.take_back.ensures)
    c.reserve.ensures.items

pub returns-clause-rest : goal.returns-clause-rest
returns-clause-rest c =
    let gains = c.in-Ok-add.ensures.ok in
    let r = recorded_of _ _ c.args.clause c.args.how _ c.in_ok-step.ensures.ok in
    let clause_is : c.as_slice.result.now ≡ c.args.clause = c.as_slice.ensures.lits ∙ c.in_ok-kept.ensures in
    let pushed : c.push.new.self.items ≡ c.args.self.now.logged.active.items ++ c.in_ok-step.step ∷ [] =
    search rules in
    let woken : c.push-2.new.self.items ≡ c.args.self.now.logged.awake.items ++ c.in_ok-step.step ∷ [] =
    search rules in
    record {
      held = held_recorded _ _ _ _ _ _ _ _ _ _ _ _ r
          (gains.clauses ∙ ap (λ xs. c.args.self.now.decisions.search.clauses ++ xs ∷ []) clause_is)
          gains.assigned.vars woken refl pushed
          (λ x there. gains.known x (subst (λ xs. Contains xs x) (sym clause_is) there)) c.requires.rest.held;
      resting = resting_more _ _ _ _ _ c.vars-form.ensures.form gains c.requires.rest.resting;
    }

pub returns-clause-keeps : goal.returns-clause-keeps
returns-clause-keeps c =
    let pushed : c.push.new.self.items ≡ c.args.self.now.logged.active.items ++ c.in_ok-step.step ∷ [] =
    search rules in
    keeps_recorded _ _ c.args.clause _ (recorded_of _ _ c.args.clause c.args.how _ c.in_ok-step.ensures.ok) pushed
