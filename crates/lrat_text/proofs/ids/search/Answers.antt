use Rattle.std.proofs.Common.{Err}
use Rattle.std.proofs.lemmas.List.Sorted.{searched}
use Rattle.lists.proofs.RisingLists.{rises_along}
use Rattle.lrat_text.proofs.NamedSteps.{not_found}
use Rattle.lrat_text.proofs.ids.search.Goals as goal

pub returns-in-Err-clause-none : goal.returns-in-Err-clause-none
returns-in-Err-clause-none c =
    not_found c.args.ids.now c.args.id c.in-Err.field-0
    (searched c.args.ids.now c.args.id (Err c.in-Err.field-0) c.in-Err.ensures.position (rises_along _ c.requires))
