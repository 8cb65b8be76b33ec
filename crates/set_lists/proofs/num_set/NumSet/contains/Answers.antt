use Rattle.std.proofs.lemmas.List.Sorted.{searched}
use Rattle.set_lists.proofs.Rising.{found}
use Rattle.set_lists.proofs.num_set.NumSet.contains.Goals as goal
use Rattle.lists.proofs.RisingLists.{rises_along}

pub returns : goal.returns
returns c =
    rw (c.is_ok.ensures.value, ← c.self.view_is)
    (found c.self.inside.numbers.items c.args.number c.binary_search.result
    (searched _ _ _ (rw c.deref.ensures.value at c.binary_search.ensures.position) (rises_along _ c.self.invariant)))
