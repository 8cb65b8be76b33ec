use Rattle.std.proofs.Common.{◌+◌, arith, refl, ◌∙◌}
use Rattle.std.proofs.lemmas.List.{drop_all}
use Rattle.plain_lits.proofs.CheckingLemmas.{along_false, along_unit, clause_member}
use Rattle.refutation_logs.proofs.UsedHints.{IsNotRejected, hint_there, named_there, unit_there}
use Rattle.refutation_logs.proofs.used.up_to_false.Goals as goal

pub overflow_sub-number : goal.overflow_sub-number
overflow_sub-number c =
    (named_there c.args.clauses.now c.loop-at.trail.lits c.args.hints.now c.loop-at.at c.number-number.result
    c.index-hints-at.result c.loop-at-test.true c.index-hints-at.is c.number-number.ensures
    (λ w. c.requires.taken _ (c.loop-at.invariant.rest _ w))).from_one

pub row-requires : goal.row-requires
row-requires c =
    let named = named_there c.args.clauses.now c.loop-at.trail.lits c.args.hints.now c.loop-at.at
    c.number-number.result c.index-hints-at.result c.loop-at-test.true c.index-hints-at.is c.number-number.ensures
    (λ w. c.requires.taken _ (c.loop-at.invariant.rest _ w)) in
    let low = named.from_one in
    let high = named.within in
    omega (arith, low, high)

pub returns-in-None : goal.returns-in-None
returns-in-None c =
    let none : IsNotRejected c.args.clauses.now c.loop-at.trail.lits c.args.hints.now c.loop-at.at
    = λ w. c.requires.taken _ (c.loop-at.invariant.rest _ w) in
    let at = hint_there c.args.clauses.now c.loop-at.trail.lits c.args.hints.now c.loop-at.at c.number-number.result
    c.index-hints-at.result c.row.result.now c.loop-at-test.true c.index-hints-at.is c.number-number.ensures
    c.row.ensures none in
    c.loop-at.invariant.rest _ (along_false _ _ _ _ _ _ at c.in-None.ensures.none)

pub push-requires-clause-within : goal.push-requires-clause-within
push-requires-clause-within c =
    let named = named_there c.args.clauses.now c.loop-at.trail.lits c.args.hints.now c.loop-at.at
    c.number-number.result c.index-hints-at.result c.loop-at-test.true c.index-hints-at.is c.number-number.ensures
    (λ w. c.requires.taken _ (c.loop-at.invariant.rest _ w)) in
    let low = named.from_one in
    let high = named.within in
    rw c.loop-at.invariant.vars (c.requires.room c.row.result.now
    (clause_member _ _ _ (omega (arith, low, high)) c.row.ensures) c.in-Some.lit c.in-Some.ensures.there)

pub push-requires-clause-unset : goal.push-requires-clause-unset
push-requires-clause-unset c =
    let none : IsNotRejected c.args.clauses.now c.loop-at.trail.lits c.args.hints.now c.loop-at.at
    = λ w. c.requires.taken _ (c.loop-at.invariant.rest _ w) in
    let at = hint_there c.args.clauses.now c.loop-at.trail.lits c.args.hints.now c.loop-at.at c.number-number.result
    c.index-hints-at.result c.row.result.now c.loop-at-test.true c.index-hints-at.is c.number-number.ensures
    c.row.ensures none in
    let unit = unit_there _ _ _ _ _ _ c.in-Some.lit at none c.in-Some.ensures.there c.in-Some.ensures.high in
    (unit.not_true, unit.not_false)

pub loop-at-preserved : goal.loop-at-preserved
loop-at-preserved c =
    let none : IsNotRejected c.args.clauses.now c.loop-at.trail.lits c.args.hints.now c.loop-at.at
    = λ w. c.requires.taken _ (c.loop-at.invariant.rest _ w) in
    let at = hint_there c.args.clauses.now c.loop-at.trail.lits c.args.hints.now c.loop-at.at c.number-number.result
    c.index-hints-at.result c.row.result.now c.loop-at-test.true c.index-hints-at.is c.number-number.ensures
    c.row.ensures none in
    let unit = unit_there _ _ _ _ _ _ c.in-Some.lit at none c.in-Some.ensures.there c.in-Some.ensures.high in
    record {
      rest = λ outcome w. c.loop-at.invariant.rest outcome
          (along_unit _ _ _ _ _ _ c.in-Some.lit outcome at unit (rw c.push.ensures.lits at w));
      vars = c.push.ensures.vars ∙ c.loop-at.invariant.vars;
    }

pub unreachable-requires : goal.unreachable-requires
unreachable-requires c =
    c.requires.taken (c.loop-at.at + 1) (c.loop-at.invariant.rest _ (rw (drop_all c.loop-at.at c.args.hints.now
    c.loop-at-test.false) refl))
