use Rattle.edit_history.specs.Closing.{AreRooms}
use Rattle.edit_history.proofs.server.parts_for.Given as goal

abbrev pub invariant-loop : goal.invariant-loop
invariant-loop l = AreRooms l.counter l.seats l.parts.items
