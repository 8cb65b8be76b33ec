use Rattle.std.proofs.lemmas.List.Filters.{dedup_is}
use Rattle.atom_solver.proofs.Siding.{order_of}
use Rattle.atom_solver.proofs.kept_side.put_in_order.Goals as goal

pub returns : goal.returns
returns c = order_of c.args.literals.now.items c.sort_unstable.new.self.items c.dedup.new.self.items
    c.sort_unstable.ensures.sorted c.sort_unstable.ensures.permutation (dedup_is _ _ _ c.dedup.ensures.filtered)
