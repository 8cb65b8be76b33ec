use Rattle.marked_rules.proofs.ConeLemmas.{cone_by}
use Rattle.marked_rules.proofs.cone.Cone.grow.Goals as goal

pub returns : goal.returns
returns c = cone_by c.args.plain.now c.args.set.now c.begin.new.self.atoms.items c.follow.new.self.atoms.items
    c.in_ok-begin.ensures.contraries c.in_ok-follow.ensures
