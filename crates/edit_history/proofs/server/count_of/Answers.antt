use Rattle.std.proofs.Common.{◌∙◌}
use Rattle.edit_history.proofs.ServerLemmas.{last_number}
use Rattle.edit_history.proofs.server.count_of.Goals as goal

pub returns : goal.returns
returns c =
    c.number.ensures
    ∙ last_number c.args.hub.now c.args.seats.now c.in-Some.seat.now c.requires c.in-Some.ensures.item.1
