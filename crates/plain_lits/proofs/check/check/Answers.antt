use Rattle.plain_lits.proofs.CheckingLemmas.{checks_along}
use Rattle.plain_lits.proofs.check.check.Goals as goal

pub propagate_hints-outcome-requires : goal.propagate_hints-outcome-requires
propagate_hints-outcome-requires c = rw c.assume_false-plain.ensures.vars (record { room = c.requires.room })

pub returns-clause-outcome : goal.returns-clause-outcome
returns-clause-outcome c =
    checks_along c.args.clauses.now c.args.clause.now _ c.args.hints.now _ c.if-not-plain.ensures.plain
    c.propagate_hints-outcome.ensures.outcome
