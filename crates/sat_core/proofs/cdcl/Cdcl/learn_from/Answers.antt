use Rattle.std.proofs.Common.{◌≡◌, arith, sym, subst, ◌∙◌, refl, map}
use Rattle.std.specs.Prelude.{Contains}
use Rattle.plain_lits.specs.Literals.{negation}
use Rattle.plain_lits.specs.HintCheck.{IsTautology}
use Rattle.hinted_log.proofs.Proofs.{not_so}
use Rattle.sleeping_clauses.specs.Steps.{step_of}
use Rattle.sleeping_clauses.specs.Sleeping.{AreSleepers, HasNoSubsumingSleeper}
use Rattle.sat_core.specs.Turns.{state_of}
use Rattle.sat_core.proofs.Keeping.{derives_same}
use Rattle.sat_core.proofs.Running.{has_decided, has_settled}
use Rattle.sat_core.proofs.Turning.{known_of, ids_of, named_of, unit_learned, plain_of}
use Rattle.sat_core.proofs.cdcl.Cdcl.learn_from.Goals as goal

pub learn-requires-clause-decided : goal.learn-requires-clause-decided
learn-requires-clause-decided c = has_decided c.args.self.now.front.items c.args.self.now.decisions.search
    c.args.assumptions.now
    c.vars-form.ensures.form c.requires.deep c.requires.run

pub steps_of-requires : goal.steps_of-requires
steps_of-requires c =
    let s = c.args.self.now.decisions.search in
    rw c.deref-2.ensures.value (ids_of s.clauses c.args.self.now.logged.awake.items c.args.self.now.logged.log.steps
    _ _ _
    c.requires.kept.held.shared.mirror c.in_ok-learned.ensures.learned.taken c.as_slice-2.ensures)

pub bump_all-requires : goal.bump_all-requires
bump_all-requires c = named_of c.args.self.now.decisions.search.clauses _ _ _ c.in_ok-learned.ensures.learned.taken
    c.as_slice-3.ensures

pub take-requires-clause-room : goal.take-requires-clause-room
take-requires-clause-room c = not_so _ _ c.is_full.ensures.full c.if-is_full.false

pub take-requires-clause-shown : goal.take-requires-clause-shown
take-requires-clause-shown c =
    let none : HasNoSubsumingSleeper c.args.self.now.logged.log.steps c.args.self.now.logged.asleep.items
    c.in_ok-learned.learned.clause =
    rw (c.in-None.is, c.deref.ensures.value, c.as_slice.ensures.lits) at c.in_ok-found.ensures in
    let s = c.args.self.now.decisions.search in
    let settled = has_settled c.args.self.now.front.items s c.args.assumptions.now c.requires.deep c.requires.run in
    let hints : c.as_slice-5.result.now ≡ map (step_of c.args.self.now.logged.awake.items)
    c.in_ok-learned.learned.hints =
    rw (c.as_slice-5.ensures, c.in_ok-hints.ensures, c.deref-2.ensures.value, c.as_slice-2.ensures) refl in
    unit_learned (state_of c.args.self.now) c.args.self.now.logged.awake.items
    c.args.self.now.logged.asleep.items c.args.self.now.front.items s c.args.assumptions.now
    c.in_ok-learned.learned.clause
    c.in_ok-learned.learned.hints _ c.requires.kept.held.shared c.vars-form.ensures.form c.requires.run
    c.in_ok-learned.ensures.learned (c.in_ok-learned.ensures.new settled) none hints

pub subsuming_sleeper-requires-clause-room : goal.subsuming_sleeper-requires-clause-room
subsuming_sleeper-requires-clause-room c = λ l h.
    let s = c.args.self.now.decisions.search in
    let known = known_of s _ c.vars-form.ensures.form c.in_ok-learned.ensures.learned.all_false l
    (subst (λ xs. Contains xs l) c.as_slice.ensures.lits h) in
    omega (arith, known, c.vars-vars.ensures.vars)

pub subsuming_sleeper-requires-clause-asleep : goal.subsuming_sleeper-requires-clause-asleep
subsuming_sleeper-requires-clause-asleep c =
    subst (AreSleepers c.args.self.now.logged.log.steps) (sym c.deref.ensures.value)
    c.requires.kept.held.shared.sleepers

pub wake-requires-clause-within : goal.wake-requires-clause-within
wake-requires-clause-within c = rw (c.in-Some.is, c.deref.ensures.value) at c.in_ok-found.ensures

pub levels_of-requires : goal.levels_of-requires
levels_of-requires c = λ l there. c.in_ok-learned.ensures.learned.all_false.each l
    (subst (λ xs. Contains xs l) c.as_slice-4.ensures.lits there)

pub take-requires-clause-asserting : goal.take-requires-clause-asserting
take-requires-clause-asserting c =
    let s = c.args.self.now.decisions.search in
    let settled = has_settled c.args.self.now.front.items s c.args.assumptions.now c.requires.deep c.requires.run in
    record {
      level_in = c.in_ok-learned.ensures.level;
      unit = c.in_ok-learned.ensures.unit settled;
      least = c.in_ok-learned.ensures.least settled;
      known = known_of s c.in_ok-learned.learned.clause c.vars-form.ensures.form
          c.in_ok-learned.ensures.learned.all_false;
    }

pub returns-then-not-spend-clause-stops : goal.returns-then-not-spend-clause-stops
returns-then-not-spend-clause-stops c =
    let none : HasNoSubsumingSleeper c.args.self.now.logged.log.steps c.args.self.now.logged.asleep.items
    c.in_ok-learned.learned.clause =
    rw (c.in-None.is, c.deref.ensures.value, c.as_slice.ensures.lits) at c.in_ok-found.ensures in
    let s = c.args.self.now.decisions.search in
    let settled = has_settled c.args.self.now.front.items s c.args.assumptions.now c.requires.deep c.requires.run in
    let hints : c.in_ok-hints.hints ≡ map (step_of c.args.self.now.logged.awake.items) c.in_ok-learned.learned.hints =
    rw (c.in_ok-hints.ensures, c.deref-2.ensures.value, c.as_slice-2.ensures) refl in
    let spend = c.if-not-spend.ensures in (
      spend.kept,
      (
        refl,
        refl,
        record {
          is_limit = c.used.ensures.used ∙ (spend.kept ∙ (spend.empty.0 refl ∙ sym spend.limit));
          is_used = c.used.ensures.used;
          in_hand = record { clause = c.in_ok-learned.learned.clause; hints = c.in_ok-hints.hints };
          kept = refl;
          further = unit_learned _ c.args.self.now.logged.awake.items
              c.args.self.now.logged.asleep.items c.args.self.now.front.items s c.args.assumptions.now
              c.in_ok-learned.learned.clause
              c.in_ok-learned.learned.hints c.in_ok-hints.hints c.requires.kept.held.shared c.vars-form.ensures.form
              c.requires.run c.in_ok-learned.ensures.learned (c.in_ok-learned.ensures.new settled) none hints;
        },
      ),
    )

pub returns-clause-goes : goal.returns-clause-goes
returns-clause-goes c =
    let none : HasNoSubsumingSleeper c.args.self.now.logged.log.steps c.args.self.now.logged.asleep.items
    c.in_ok-learned.learned.clause =
    rw (c.in-None.is, c.deref.ensures.value, c.as_slice.ensures.lits) at c.in_ok-found.ensures in
    let s = c.args.self.now.decisions.search in
    let settled = has_settled c.args.self.now.front.items s c.args.assumptions.now c.requires.deep c.requires.run in
    let hints : c.as_slice-5.result.now ≡ map (step_of c.args.self.now.logged.awake.items)
    c.in_ok-learned.learned.hints =
    rw (c.as_slice-5.ensures, c.in_ok-hints.ensures, c.deref-2.ensures.value, c.as_slice-2.ensures) refl in
    record {
      spent = c.if-not-spend.ensures.spent;
      run = c.in_ok-take.ensures.run;
      learns = record {
        clause = c.in_ok-learned.learned.clause;
        hints = c.as_slice-5.result.now;
        learned = unit_learned (state_of c.args.self.now) c.args.self.now.logged.awake.items
            c.args.self.now.logged.asleep.items c.args.self.now.front.items s c.args.assumptions.now
            c.in_ok-learned.learned.clause
            c.in_ok-learned.learned.hints _ c.requires.kept.held.shared c.vars-form.ensures.form c.requires.run
            c.in_ok-learned.ensures.learned (c.in_ok-learned.ensures.new settled) none hints;
        new_state = c.in_ok-take.ensures.state;
      };
    }

pub returns-in-Some-clause-goes : goal.returns-in-Some-clause-goes
returns-in-Some-clause-goes c = record {
  unspent = refl;
  run = c.in_ok-wake-in-Some.ensures.run;
  state = c.in_ok-wake-in-Some.ensures.state;
  fewer = c.in_ok-wake-in-Some.ensures.fewer;
}

pub returns-in-Some-clause-derives : goal.returns-in-Some-clause-derives
returns-in-Some-clause-derives c = derives_same _ _ c.in_ok-wake-in-Some.ensures.state

pub returns-in_err-wake-in-Some-clause-derives : goal.returns-in_err-wake-in-Some-clause-derives
returns-in_err-wake-in-Some-clause-derives c = derives_same _ _ c.in_err-wake-in-Some.ensures.state

pub subsuming_sleeper-requires-clause-plain : goal.subsuming_sleeper-requires-clause-plain
subsuming_sleeper-requires-clause-plain c =
    subst (λ xs. IsTautology negation xs → ⊥) (sym c.as_slice.ensures.lits)
    (plain_of c.args.self.now.decisions.search c.in_ok-learned.learned.clause c.in_ok-learned.learned.hints
    c.in_ok-learned.ensures.learned)
