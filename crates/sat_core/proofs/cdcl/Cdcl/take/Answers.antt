use Rattle.std.proofs.Common.{◌≡◌, ◌++◌, ◌∷◌, [], arith, ap, sym, subst, ◌∙◌, refl, rules}
use Rattle.std.specs.Prelude.{Contains}
use Rattle.plain_lits.specs.Literals.{negation}
use Rattle.plain_lits.specs.HintCheck.{IsUnit}
use Rattle.sat_core.proofs.Running.{stays_run}
use Rattle.sat_core.proofs.Turning.{target_within, unit_after, run_after, run_learned}
use Rattle.sat_core.proofs.Holding.{held_derived, held_learned}
use Rattle.sat_core.proofs.Turning.{state_learned}
use Rattle.sat_core.specs.Turns.{state_of}
use Rattle.sat_core.specs.Solving.{IsShown}
use Rattle.sat_core.proofs.Keeping.{derives_logs, derives_derived, derives_unit}
use Rattle.sat_core.proofs.cdcl.Cdcl.take.Goals as goal

pub back_to-requires : goal.back_to-requires
back_to-requires c =
    let s = c.args.self.now.decisions.search in
    let lt = target_within s c.args.learned.now.level c.kept_level.result c.requires.asserting.level_in c.requires.deep
    c.kept_level.ensures.within in
    omega (arith, lt)

pub add_learned-requires : goal.add_learned-requires
add_learned-requires c =
    let s = c.args.self.now.decisions.search in
    let l = c.args.learned.now in
    let lt = target_within s l.level c.kept_level.result c.requires.asserting.level_in c.requires.deep
    c.kept_level.ensures.within in
    subst (λ xs. IsUnit negation c.back_to.new.self.search.lits xs l.asserting) (sym c.as_slice.ensures.lits)
    (unit_after s c.back_to.new.self.search l.level c.kept_level.result l.clause l.asserting c.requires.asserting
    c.kept_level.ensures.kept lt c.back_to.ensures)

pub returns-in_err-add_learned-clause-kept : goal.returns-in_err-add_learned-clause-kept
returns-in_err-add_learned-clause-kept c =
    let s = c.args.self.now.decisions.search in
    let l = c.args.learned.now in
    let lt = target_within s l.level c.kept_level.result c.requires.asserting.level_in c.requires.deep
    c.kept_level.ensures.within in
    let stays = c.in_err-add_learned.ensures.err in
    record {
      held = held_derived s _ _ _ _ _ _ _ c.args.self.now.logged.log _ c.in_ok-clause.clause _ _
          (stays.clauses ∙ c.back_to.ensures.clauses)
          (let a = c.back_to.ensures.vars in let b = stays.assigned.vars in omega (arith, a, b))
          c.reserve-2.ensures.items refl c.reserve.ensures.items
          (λ x there.
          let known = c.requires.asserting.known x (subst (λ xs. Contains xs x) c.in_ok-clause.ensures there) in
          let a = c.back_to.ensures.vars in let b = stays.assigned.vars in omega (arith, a, b, known))
          c.in_ok-step.ensures.ok c.requires.kept.held;
      fronted = (stays_run c.args.self.now.front.items c.back_to.new.self.search _ c.args.assumptions.now
          c.vars-form.ensures.form stays
          (run_after c.args.self.now.front.items s c.back_to.new.self.search c.kept_level.result
          c.args.assumptions.now c.vars-before.ensures.form
          c.kept_level.ensures.positive lt c.back_to.ensures c.requires.run)).fronted;
    }

pub returns-clause-kept : goal.returns-clause-kept
returns-clause-kept c =
    let s = c.args.self.now.decisions.search in
    let l = c.args.learned.now in
    let lt = target_within s l.level c.kept_level.result c.requires.asserting.level_in c.requires.deep
    c.kept_level.ensures.within in
    let learns = c.in_ok-add_learned.ensures.ok in
    let clause_is : c.as_slice.result.now ≡ c.in_ok-clause.clause = c.as_slice.ensures.lits
    ∙ sym c.in_ok-clause.ensures in
    let pushed : c.push.new.self.items ≡ c.args.self.now.logged.active.items ++ c.in_ok-step.step ∷ [] =
    search rules in
    let woken : c.push-2.new.self.items ≡ c.args.self.now.logged.awake.items ++ c.in_ok-step.step ∷ [] =
    search rules in
    record {
      held = held_learned s _ _ _ _ _ _ _ c.args.self.now.logged.log _ c.in_ok-clause.clause _ c.in_ok-step.step
          (learns.clauses ∙ (ap (λ xs. c.back_to.new.self.search.clauses ++ xs ∷ []) clause_is
          ∙ ap (λ xs. xs ++ c.in_ok-clause.clause ∷ []) c.back_to.ensures.clauses))
          (let a = c.back_to.ensures.vars in let b = learns.vars in omega (arith, a, b))
          woken refl pushed
          (λ x there.
          let known = c.requires.asserting.known x (subst (λ xs. Contains xs x) c.in_ok-clause.ensures there) in
          let a = c.back_to.ensures.vars in let b = learns.vars in omega (arith, a, b, known))
          c.in_ok-step.ensures.ok c.requires.kept.held;
      fronted = (run_learned c.args.self.now.front.items s c.back_to.new.self.search _ l.level c.kept_level.result
          l.clause l.asserting _
          c.args.assumptions.now c.vars-before.ensures.form c.vars-form.ensures.form c.requires.asserting
          c.kept_level.ensures.positive c.kept_level.ensures.low lt c.back_to.ensures
          (rw c.as_slice.ensures.lits at learns) c.requires.run).fronted;
    }

pub returns-clause-run : goal.returns-clause-run
returns-clause-run c =
    let s = c.args.self.now.decisions.search in
    let l = c.args.learned.now in
    let lt = target_within s l.level c.kept_level.result c.requires.asserting.level_in c.requires.deep
    c.kept_level.ensures.within in
    let learns = c.in_ok-add_learned.ensures.ok in
    run_learned c.args.self.now.front.items s c.back_to.new.self.search _ l.level c.kept_level.result l.clause
    l.asserting _
    c.args.assumptions.now c.vars-before.ensures.form c.vars-form.ensures.form c.requires.asserting
    c.kept_level.ensures.positive c.kept_level.ensures.low lt c.back_to.ensures
    (rw c.as_slice.ensures.lits at learns) c.requires.run

pub returns-in_err-step-clause-derives : goal.returns-in_err-step-clause-derives
returns-in_err-step-clause-derives c = derives_logs _ _ c.in_err-step.ensures.err c.reserve.ensures.items

pub returns-in_err-add_learned-clause-derives : goal.returns-in_err-add_learned-clause-derives
returns-in_err-add_learned-clause-derives c = derives_derived (state_of c.args.self.now) _ c.in_ok-clause.clause
    c.args.hints.now _
    (subst (λ xs. IsShown (state_of c.args.self.now) xs c.args.hints.now) (sym c.in_ok-clause.ensures)
    c.requires.shown.shown)
    c.in_ok-step.ensures.ok c.reserve.ensures.items

pub returns-clause-derives : goal.returns-clause-derives
returns-clause-derives c =
    let pushed : c.push.new.self.items ≡ c.args.self.now.logged.active.items ++ c.in_ok-step.step ∷ [] =
    search rules in
    derives_unit (state_of c.args.self.now) _ c.in_ok-clause.clause c.args.hints.now
    (subst (λ xs. IsShown (state_of c.args.self.now) xs c.args.hints.now) (sym c.in_ok-clause.ensures)
    c.requires.shown.shown)
    (state_learned (state_of c.args.self.now) _ _ _ _ _ c.in_ok-step.ensures.ok pushed)

pub returns-in_err-reserve-clause-derives : goal.returns-in_err-reserve-clause-derives
returns-in_err-reserve-clause-derives c = derives_logs _ _ refl c.reserve.ensures.items

pub returns-in_err-reserve-2-clause-derives : goal.returns-in_err-reserve-2-clause-derives
returns-in_err-reserve-2-clause-derives c = derives_logs _ _ refl c.reserve.ensures.items

pub returns-in_err-push_levels-clause-derives : goal.returns-in_err-push_levels-clause-derives
returns-in_err-push_levels-clause-derives c = derives_logs _ _ refl c.reserve.ensures.items

pub returns-in_err-clause-clause-derives : goal.returns-in_err-clause-clause-derives
returns-in_err-clause-clause-derives c = derives_logs _ _ refl c.reserve.ensures.items
