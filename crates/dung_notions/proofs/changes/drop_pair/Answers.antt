use Rattle.dung_notions.proofs.ChangeLemmas.{lost_both}
use Rattle.dung_notions.proofs.changes.drop_pair.Goals as goal

pub returns-clause-ways : goal.returns-clause-ways
returns-clause-ways c =
    lost_both (c.args.attacker, c.args.target) c.args.outgoing.now.pairs c.remove.new.self.pairs
    c.args.incoming.now.pairs c.remove-2.new.self.pairs c.requires c.remove.ensures.loses c.remove-2.ensures.loses
