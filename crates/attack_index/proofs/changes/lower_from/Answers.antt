use Rattle.attack_index.proofs.ChangeLemmas.{lowered_all}
use Rattle.attack_index.proofs.changes.lower_from.Goals as goal

pub returns : goal.returns
returns c =
    lowered_all c.args.from c.loop-index.index c.args.numbers.now c.loop-index.numbers c.loop-index-test.false
    c.loop-index.invariant.1
