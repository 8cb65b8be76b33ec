use Rattle.std.proofs.Common.{◌≡◌, ◌≤◌, take}
use Rattle.plain_lits.specs.Checking.{HasRoomFor, IsPackable}
use Rattle.hinted_log.proofs.log.make_room.Given as goal

abbrev pub invariant-loop-lit : goal.invariant-loop-lit
invariant-loop-lit l = record {
  room : HasRoomFor l.trail.vars (take l.lit-index l.clause);
  packable : IsPackable (take l.lit-index l.clause);
  more : l.initial.trail.vars ≤ l.trail.vars;
  lits : l.trail.lits ≡ l.initial.trail.lits;
}
