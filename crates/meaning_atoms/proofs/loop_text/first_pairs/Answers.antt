use Rattle.std.proofs.Common.{arith}
use Rattle.meaning_atoms.proofs.LoopNumbers.{no_pair}
use Rattle.meaning_atoms.proofs.loop_text.first_pairs.Goals as goal

pub returns-in_default-clause-none : goal.returns-in_default-clause-none
returns-in_default-clause-none c = λ pairs rest begins.
    let many = c.len.ensures in
    let below = c.loop-rest-test.true in
    no_pair c.args.numbers.now c.loop-rest.rest.now c.args.count c.loop-rest.pairs c.loop-rest.invariant (omega arith)
    c.in_default.len_below pairs rest begins
