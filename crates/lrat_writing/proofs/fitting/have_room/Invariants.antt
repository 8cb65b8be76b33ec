use Rattle.std.proofs.Common.{take}
use Rattle.plain_lits.specs.Checking.{HaveRoomFor}
use Rattle.hinted_log.specs.Logs.{clauses_of}
use Rattle.lrat_writing.proofs.fitting.have_room.Given as goal

abbrev pub invariant-loop-index : goal.invariant-loop-index
invariant-loop-index l = HaveRoomFor l.vars (clauses_of (take l.index l.log.steps))
