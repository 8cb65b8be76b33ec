use Rattle.af_encoding.proofs.GainedLemmas.{on_as, pair_called}
use Rattle.af_encoding.proofs.changing.push_target.Goals as goal

pub returns : goal.returns
returns c =
    on_as _ _ _ _ c.push_past.result
    (pair_called c.args.plain.now c.args.argument c.args.attack c.if-attack-argument.false
    c.if-attack-argument-2.false)
    c.push_past.ensures
