use Rattle.dung_notions.proofs.NeighbourLemmas.{attackers_from_filter}
use Rattle.dung_notions.proofs.af_plain.AfPlain.attackers_of.Goals as goal

pub returns : goal.returns
returns c = rw (← c.self.view_is)
    (attackers_from_filter _ c.args.argument _ _ _ c.self.invariant c.of.ensures.value)
