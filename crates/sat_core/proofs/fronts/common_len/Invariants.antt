use Rattle.std.proofs.Common.{◌≡◌, ◌≤◌, length, take}
use Rattle.sat_core.proofs.fronts.common_len.Given as goal

abbrev pub invariant-loop-index : goal.invariant-loop-index
invariant-loop-index l = record {
  within : l.index ≤ length l.second;
  same : take l.index l.first ≡ take l.index l.second;
}
