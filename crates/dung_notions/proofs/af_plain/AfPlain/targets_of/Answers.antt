use Rattle.dung_notions.proofs.NeighbourLemmas.{targets_from_filter}
use Rattle.dung_notions.proofs.af_plain.AfPlain.targets_of.Goals as goal

pub returns : goal.returns
returns c = rw (← c.self.view_is)
    (targets_from_filter _ c.args.argument _ _ _ c.self.invariant c.of.ensures.value)
