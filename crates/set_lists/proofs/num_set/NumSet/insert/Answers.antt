use Rattle.std.proofs.Common.{Err}
use Rattle.std.proofs.lemmas.List.Sorted.{searched}
use Rattle.set_lists.proofs.Inserting.{inserted}
use Rattle.set_lists.proofs.num_set.NumSet.insert.Goals as goal
use Rattle.lists.proofs.RisingLists.{rises_along}

pub invariant_of-self : goal.invariant_of-self
invariant_of-self c =
    (inserted c.self.inside.numbers.items c.args.number c.in-Err.index c.insert.new.self.items c.self.invariant
    (searched c.self.inside.numbers.items c.args.number (Err c.in-Err.index)
    (rw c.deref.ensures.value at c.in-Err.ensures.position) (rises_along _ c.self.invariant))
    c.in_ok-insert.ensures.items).rises

pub returns-in_ok-insert-clause-ok : goal.returns-in_ok-insert-clause-ok
returns-in_ok-insert-clause-ok c =
    rw (← c.self.view_is)
    (inserted c.self.inside.numbers.items c.args.number c.in-Err.index c.insert.new.self.items c.self.invariant
    (searched c.self.inside.numbers.items c.args.number (Err c.in-Err.index)
    (rw c.deref.ensures.value at c.in-Err.ensures.position) (rises_along _ c.self.invariant))
    c.in_ok-insert.ensures.items)
