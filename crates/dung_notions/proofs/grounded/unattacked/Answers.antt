use Rattle.std.proofs.lemmas.List.Elements.{Contains-get_or}
use Rattle.dung_notions.proofs.grounded.unattacked.Goals as goal

pub bounds-open_attackers-argument : goal.bounds-open_attackers-argument
bounds-open_attackers-argument c = c.requires _
    (Contains-get_or c.args.live.now c.loop-argument.argument-index 0 c.loop-argument-test.true)
