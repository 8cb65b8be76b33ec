use Rattle.std.proofs.lemmas.List.Sorted.{searched}
use Rattle.set_lists.proofs.Rising.{found}
use Rattle.atom_solver.proofs.importing.has_step.Goals as goal
use Rattle.lists.proofs.RisingLists.{rises_along}

pub returns : goal.returns
returns c =
    rw c.is_ok.ensures.value
    (found c.args.steps.now c.args.step c.binary_search.result
    (searched _ _ _ c.binary_search.ensures.position (rises_along _ c.requires)))
