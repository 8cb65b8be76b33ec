use Rattle.attack_index.proofs.ChangeLemmas.{raised_all}
use Rattle.attack_index.proofs.changes.raise_from.Goals as goal

pub returns : goal.returns
returns c =
    raised_all c.args.from c.loop-index.index c.args.numbers.now c.loop-index.numbers c.loop-index-test.false
    c.loop-index.invariant.1
