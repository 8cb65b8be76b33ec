use Rattle.std.proofs.Common.{arith, ◌∙◌}
use Rattle.edit_history.proofs.ServerLemmas.{ends_last, last_fits, own_are}
use Rattle.edit_history.proofs.server.close_last.Goals as goal

pub take_last-own-requires-clause-enough : goal.take_last-own-requires-clause-enough
take_last-own-requires-clause-enough c =
    rw c.count_of-count.ensures (last_fits c.args.hub c.args.seats.now.items c.requires.last)

pub take_last-own-requires-clause-room : goal.take_last-own-requires-clause-room
take_last-own-requires-clause-room c =
    let count = c.count_of-count.ensures in
    let fits = last_fits c.args.hub c.args.seats.now.items c.requires.last in
    let high = c.requires.room.enough in
    record { empty = c.requires.room.empty; none = c.requires.room.none; enough = omega (arith, count, fits, high) }

pub close-requires : goal.close-requires
close-requires c =
    own_are c.args.hub c.args.seats.now.items c.take_last-own.new.seats.items c.take_last-own.result.items
    c.take_last-own.ensures.whole (c.take_last-own.ensures.count ∙ c.count_of-count.ensures) c.requires.last

pub returns : goal.returns
returns c =
    ends_last c.args.hub c.args.seats.now.items c.take_last-own.new.seats.items c.take_last-own.result.items
    c.close.result c.take_last-own.ensures.whole (c.take_last-own.ensures.count ∙ c.count_of-count.ensures)
    c.close.ensures
