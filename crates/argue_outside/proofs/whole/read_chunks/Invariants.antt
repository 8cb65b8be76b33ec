use Rattle.std.proofs.Common.{◌≡◌, ◌+◌, ◌-◌, length}
use Rattle.argue_outside.specs.Outside.{HoldsStill}
use Rattle.argue_outside.proofs.OutsideLemmas.{HoldsFirst}
use Rattle.argue_outside.proofs.whole.read_chunks.Given as goal

abbrev pub invariant-loop-role : goal.invariant-loop-role
invariant-loop-role g l = record {
  first : HoldsFirst (g.F.Files.holds l.initial.files l.name) l.bytes;
  same : g.F.Files.holds l.files ≡ g.F.Files.holds l.initial.files;
  serving : HoldsStill (g.F.Files.serves l.initial.files) (g.F.Files.serves l.files);
  accepting : HoldsStill (g.F.Files.accepts l.initial.files) (g.F.Files.accepts l.files);
  refusing : HoldsStill (g.F.Files.accepts l.files) (g.F.Files.accepts l.initial.files);
  quiet : g.F.Files.read_count l.files ≡ g.F.Files.read_count l.initial.files;
  writes : g.F.Files.write_count l.files ≡ g.F.Files.write_count l.initial.files;
}

abbrev pub decreases-loop-role : goal.decreases-loop-role
decreases-loop-role g l = l.limit + 1 - length l.bytes
