use Rattle.std.proofs.Common.{take}
use Rattle.plain_lits.specs.Checking.{HasRoomFor}
use Rattle.lrat_writing.proofs.fitting.has_room.Given as goal

abbrev pub invariant-loop-packed : goal.invariant-loop-packed
invariant-loop-packed l = HasRoomFor l.vars (take l.packed-index l.clause)
