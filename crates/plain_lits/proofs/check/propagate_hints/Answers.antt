use Rattle.std.proofs.Common.{◌∙◌, arith}
use Rattle.plain_lits.proofs.CheckingLemmas.{hint_from, along_unit, along_other, clause_member}
use Rattle.plain_lits.proofs.check.propagate_hints.Goals as goal

pub returns-in-SatisfiedOrOpen-clause-outcome : goal.returns-in-SatisfiedOrOpen-clause-outcome
returns-in-SatisfiedOrOpen-clause-outcome c =
    let at = hint_from c.args.clauses.now c.args.hints.now c.loop-at.at c.number-number.result c.index-hints-at.result
    c.row.result.now
    c.loop-at-test.true c.index-hints-at.is c.number-number.ensures (omega arith) (omega (arith, c.len.ensures))
    c.row.ensures in
    c.loop-at.invariant.rest _ (along_other _ _ _ _ _ _ at c.in-SatisfiedOrOpen.ensures)

pub push-requires-clause-within : goal.push-requires-clause-within
push-requires-clause-within c =
    rw c.loop-at.invariant.vars
    (c.requires.room c.row.result.now (clause_member _ _ _ (omega (arith, c.len.ensures)) c.row.ensures)
    c.in-Unit.lit c.in-Unit.ensures.there)

pub loop-at-preserved : goal.loop-at-preserved
loop-at-preserved c =
    let at = hint_from c.args.clauses.now c.args.hints.now c.loop-at.at c.number-number.result c.index-hints-at.result
    c.row.result.now
    c.loop-at-test.true c.index-hints-at.is c.number-number.ensures (omega arith) (omega (arith, c.len.ensures))
    c.row.ensures in
    record {
      rest = λ outcome w. c.loop-at.invariant.rest outcome
          (along_unit _ _ _ _ _ _ c.in-Unit.lit outcome at c.in-Unit.ensures (rw c.push.ensures.lits at w));
      vars = c.push.ensures.vars ∙ c.loop-at.invariant.vars;
    }
