use Rattle.std.proofs.Common.{◌≡◌, arith, rules}
use Rattle.turn_lock.proofs.SeatLaws.{numbers}
use Rattle.turn_lock.proofs.steps.try_number.Goals as goal

pub compare_exchange-requires : goal.compare_exchange-requires
compare_exchange-requires g c =
    let words = c.requires.table.1 in
    let last_is : c.from-last.result ≡ c.args.before = search rules in
    (c.requires.table.0, omega arith, numbers g.V.Turned.opening g.V.Turned.history g.V.Turned.number c.args.board.now.key.seats c.args.board.now.table_id.slots c.args.place.now.id c.from-last.result c.args.place.now.me c.requires.free.0 c.requires.free.1 (rw last_is c.requires.room))
