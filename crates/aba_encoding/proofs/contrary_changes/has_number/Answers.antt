use Rattle.std.proofs.lemmas.List.Sorted.{searched}
use Rattle.lists.proofs.RisingLists.{rises_along}
use Rattle.set_lists.proofs.Rising.{found}
use Rattle.aba_encoding.proofs.contrary_changes.has_number.Goals as goal

pub returns : goal.returns
returns c =
    rw c.is_ok.ensures.value
    (found c.args.numbers.now c.args.number c.binary_search.result
    (searched _ _ _ c.binary_search.ensures.position (rises_along _ c.requires.rise)))
