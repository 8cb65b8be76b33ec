use Rattle.std.proofs.Common.{◌≡◌, ◌-◌, ◌≤◌, length, take}
use Rattle.argue_outside.specs.Outside.{Adds, HoldsStill, OtherFilesKept}
use Rattle.argue_outside.proofs.whole.append_all.Given as goal

abbrev pub invariant-loop-taken : goal.invariant-loop-taken
invariant-loop-taken g l = record {
  within : l.taken ≤ length l.bytes;
  part : Adds (g.F.Files.holds l.initial.files l.name) (g.F.Files.holds l.files l.name) (take l.taken l.bytes);
  others : OtherFilesKept l.name (g.F.Files.holds l.initial.files) (g.F.Files.holds l.files);
  serving : HoldsStill (g.F.Files.serves l.initial.files) (g.F.Files.serves l.files);
  accepting : HoldsStill (g.F.Files.accepts l.initial.files) (g.F.Files.accepts l.files);
  refusing : HoldsStill (g.F.Files.accepts l.files) (g.F.Files.accepts l.initial.files);
  quiet : g.F.Files.write_count l.files ≡ g.F.Files.write_count l.initial.files;
  reads : g.F.Files.read_count l.files ≡ g.F.Files.read_count l.initial.files;
}

abbrev pub decreases-loop-taken : goal.decreases-loop-taken
decreases-loop-taken g l = length l.bytes - l.taken
