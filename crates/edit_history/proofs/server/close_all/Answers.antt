use Rattle.std.proofs.Common.{arith, ◌≡◌, ◌+◌, length, ap, ◌∙◌}
use Rattle.std.proofs.lemmas.List.{length_push}
use Rattle.edit_history.proofs.ServerLemmas.{closing_last, closing_next, closing_room}
use Rattle.edit_history.proofs.server.close_all.Goals as goal

pub close_last-requires-clause-last : goal.close_last-requires-clause-last
close_last-requires-clause-last c =
    let loop = c.loop-hub in
    closing_last c.args.hubs.items c.args.seats.items loop.left.items c.pop.new.self.items loop.seats.items
    loop.parts.items loop.ended.items c.in-Some.hub c.in-Some.ensures.items loop.invariant.0

pub close_last-requires-clause-room : goal.close_last-requires-clause-room
close_last-requires-clause-room c =
    let loop = c.loop-hub in
    closing_room c.args.hubs.items c.args.seats.items loop.left.items loop.seats.items loop.parts.items
    c.pop-in-Some.new.self.items loop.ended.items c.in-Some-pop.part c.in-Some-pop.ensures.items loop.invariant.0

pub loop-hub-preserved : goal.loop-hub-preserved
loop-hub-preserved c =
    let loop = c.loop-hub in
    let shorter : length loop.left.items ≡ length c.pop.new.self.items + 1 =
    ap length c.in-Some.ensures.items ∙ length_push c.pop.new.self.items c.in-Some.hub in
    let room = loop.invariant.1 in
    let long = c.push_reserved.ensures.len in
    let capacity = c.push_reserved.ensures.capacity in
    (
      closing_next c.args.hubs.items c.args.seats.items loop.left.items c.pop.new.self.items loop.seats.items
          c.close_last.new.seats.items loop.parts.items c.pop-in-Some.new.self.items loop.ended.items
          c.push_reserved.new.self.items c.in-Some.hub c.in-Some-pop.part c.close_last.result
          c.in-Some.ensures.items c.in-Some-pop.ensures.items c.push_reserved.ensures.items c.close_last.ensures
          loop.invariant.0,
      omega (arith, shorter, room, long, capacity),
    )
