use Rattle.std.proofs.Common.{◌≡◌, arith, subst, refl, map}
use Rattle.std.specs.Prelude.{Contains}
use Rattle.sat_core.specs.Mirrors.{IsSubsuming, HasNoSubsuming}
use Rattle.sleeping_clauses.specs.Steps.{step_of}
use Rattle.sat_core.specs.Turns.{state_of}
use Rattle.sat_core.proofs.Turning.{known_of, ids_of, moved_to, core_served, core_derived, core_shown}
use Rattle.sat_core.proofs.Holding.{held_derived}
use Rattle.sat_core.proofs.Keeping.{derives_derived, derives_logs}
use Rattle.sat_core.proofs.cdcl.Cdcl.derive_core.Goals as goal

pub subsuming_step-requires-clause-room : goal.subsuming_step-requires-clause-room
subsuming_step-requires-clause-room c = λ l h.
    let s = c.args.self.now.decisions.search in
    let learned = c.in_ok-clause.ensures.learned in
    let known = known_of s _ c.vars-vars.ensures.form learned.all_false l
    (subst (λ xs. Contains xs l) c.as_slice.ensures.lits h) in
    omega (arith, known, c.vars-vars.ensures.vars)

pub returns-in-Some-clause-core : goal.returns-in-Some-clause-core
returns-in-Some-clause-core c =
    let s = c.args.self.now.decisions.search in
    let subsuming = rw c.in-Some.is at c.in_ok-subsuming.ensures in
    core_served (state_of c.args.self.now) c.args.self.now.front.items s c.args.assumptions.now _ c.in-Some.step
    c.requires.shallow c.requires.run
    c.in_ok-clause.ensures.assumed
    (subst (λ xs. IsSubsuming c.args.self.now.logged.log.steps xs c.in-Some.step) c.as_slice.ensures.lits subsuming)

pub steps_of-requires : goal.steps_of-requires
steps_of-requires c =
    let s = c.args.self.now.decisions.search in
    rw c.deref.ensures.value (ids_of s.clauses c.args.self.now.logged.awake.items c.args.self.now.logged.log.steps
    _ _ _
    c.requires.kept.held.shared.mirror c.in_ok-clause.ensures.learned.taken c.as_slice-2.ensures)

pub derive-requires-clause-shown : goal.derive-requires-clause-shown
derive-requires-clause-shown c =
    let s = c.args.self.now.decisions.search in
    let hints : c.as_slice-3.result.now ≡ map (step_of c.args.self.now.logged.awake.items)
    c.in_ok-clause.field-0.hints =
    rw (c.as_slice-3.ensures, c.in_ok-hints.ensures, c.deref.ensures.value, c.as_slice-2.ensures) refl in
    moved_to s.clauses c.args.self.now.logged.awake.items c.args.self.now.logged.log.steps _ _ _
    c.requires.kept.held.shared.mirror c.in_ok-clause.ensures.learned.taken hints

pub returns-clause-kept : goal.returns-clause-kept
returns-clause-kept c =
    let s = c.args.self.now.decisions.search in
    record {
      held = held_derived s s _ _ _ _ _ _ c.args.self.now.logged.log _ _ _ _ refl (omega arith) refl refl refl
          (known_of s _ c.vars-vars.ensures.form c.in_ok-clause.ensures.learned.all_false) c.in_ok-step.ensures.ok
          c.requires.kept.held;
      fronted = c.requires.kept.fronted;
    }

pub returns-clause-core : goal.returns-clause-core
returns-clause-core c =
    let s = c.args.self.now.decisions.search in
    let hints : c.as_slice-3.result.now ≡ map (step_of c.args.self.now.logged.awake.items)
    c.in_ok-clause.field-0.hints =
    rw (c.as_slice-3.ensures, c.in_ok-hints.ensures, c.deref.ensures.value, c.as_slice-2.ensures) refl in
    let none : HasNoSubsuming c.args.self.now.logged.log.steps c.as_slice.result.now = rw c.in-None.is at
    c.in_ok-subsuming.ensures in
    core_derived (state_of c.args.self.now) c.args.self.now.logged.awake.items c.args.self.now.logged.asleep.items _
    c.args.self.now.front.items s c.args.assumptions.now _ _ _ _
    c.requires.kept.held.shared
    c.requires.shallow c.requires.run c.in_ok-clause.ensures.learned c.in_ok-clause.ensures.assumed
    (subst (λ xs. HasNoSubsuming c.args.self.now.logged.log.steps xs) c.as_slice.ensures.lits none) hints
    c.in_ok-step.ensures.ok

pub returns-clause-derives : goal.returns-clause-derives
returns-clause-derives c =
    let s = c.args.self.now.decisions.search in
    let hints : c.as_slice-3.result.now ≡ map (step_of c.args.self.now.logged.awake.items)
    c.in_ok-clause.field-0.hints =
    rw (c.as_slice-3.ensures, c.in_ok-hints.ensures, c.deref.ensures.value, c.as_slice-2.ensures) refl in
    derives_derived (state_of c.args.self.now) _ _ _ _
    (core_shown (state_of c.args.self.now) c.args.self.now.logged.awake.items c.args.self.now.logged.asleep.items s _ _
    _ c.requires.kept.held.shared c.in_ok-clause.ensures.learned hints)
    c.in_ok-step.ensures.ok refl

pub returns-in_err-step-clause-derives : goal.returns-in_err-step-clause-derives
returns-in_err-step-clause-derives c = derives_logs _ _ c.in_err-step.ensures.err refl
