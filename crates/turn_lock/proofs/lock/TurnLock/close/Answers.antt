use Rattle.std.proofs.Common.{◌∙◌, sym, subst}
use Rattle.std.proofs.lemmas.Option.{same_Some}
use Rattle.std.specs.Slots.{slots_items}
use Rattle.turn_lock.specs.Seats.{Ends}
use Rattle.turn_lock.proofs.ClosingLaws.{concludes}
use Rattle.turn_lock.proofs.lock.TurnLock.close.Goals as goal

pub unreachable-requires : goal.unreachable-requires
unreachable-requires g c =
    let end = concludes g.V.Turned.opening g.V.Turned.history g.V.Turned.number c.args.self c.args.seats.items c.gather-place.result.id c.gather-place.result.me.0 (slots_items c.close_with-closed.result.words) (slots_items c.close_with-closed.result.slots) c.take-slot.result c.requires.all c.gather-place.ensures.gathered c.close_with-closed.ensures.values.2 c.take-slot.ensures.value in
    c.in_default.not-Some end.0 end.1

pub returns : goal.returns
returns g c =
    let end = concludes g.V.Turned.opening g.V.Turned.history g.V.Turned.number c.args.self c.args.seats.items c.gather-place.result.id c.gather-place.result.me.0 (slots_items c.close_with-closed.result.words) (slots_items c.close_with-closed.result.slots) c.take-slot.result c.requires.all c.gather-place.ensures.gathered c.close_with-closed.ensures.values.2 c.take-slot.ensures.value in
    record { ends = subst (Ends g.V.Turned.opening g.V.Turned.history g.V.Turned.number c.args.self c.args.seats.items) (same_Some end.0 c.in-Some.value (sym end.1 ∙ c.in-Some.is)) end.2 }
