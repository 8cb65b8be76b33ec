use Rattle.turn_lock.proofs.ClosingLaws.{is_left}
use Rattle.turn_lock.proofs.closing.gather.Goals as goal

pub join-requires-clause-table : goal.join-requires-clause-table
join-requires-clause-table g c =
    let old = c.loop-seat.invariant in
    let its = is_left g.V.Turned.opening c.args.lock.now c.args.seats.items c.loop-seat.left.items c.pop-in-loop-seat.new.self.items c.in-Some-pop.seat c.loop-seat.place.me.0 c.requires.all old.1 c.in-Some-pop.ensures.items in
    (old.0, (its.0.0, old.0.1, old.0.2))

pub join-requires-clause-idle : goal.join-requires-clause-idle
join-requires-clause-idle g c =
    let old = c.loop-seat.invariant in
    let its = is_left g.V.Turned.opening c.args.lock.now c.args.seats.items c.loop-seat.left.items c.pop-in-loop-seat.new.self.items c.in-Some-pop.seat c.loop-seat.place.me.0 c.requires.all old.1 c.in-Some-pop.ensures.items in
    (old.1.idle, its.1.0)

pub join-requires-clause-empty : goal.join-requires-clause-empty
join-requires-clause-empty g c =
    let its = is_left g.V.Turned.opening c.args.lock.now c.args.seats.items c.loop-seat.left.items c.pop-in-loop-seat.new.self.items c.in-Some-pop.seat c.loop-seat.place.me.0 c.requires.all c.loop-seat.invariant.1 c.in-Some-pop.ensures.items in
    its.1.1
