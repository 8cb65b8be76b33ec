use Rattle.std.proofs.Common.{◌≡◌, ◌-◌, ◌≤◌, length, take}
use Rattle.std.specs.Io.KnownBytes.{Appends}
use Rattle.argue_outside.proofs.whole.put_all.Given as goal

abbrev pub invariant-loop-taken : goal.invariant-loop-taken
invariant-loop-taken g l = record {
  within : l.taken ≤ length l.bytes;
  part : Appends (g.O.Sink.contents l.initial.sink) (g.O.Sink.contents l.sink) (take l.taken l.bytes);
  quiet : g.O.Sink.fault_count l.sink ≡ g.O.Sink.fault_count l.initial.sink;
}

abbrev pub decreases-loop-taken : goal.decreases-loop-taken
decreases-loop-taken g l = length l.bytes - l.taken
