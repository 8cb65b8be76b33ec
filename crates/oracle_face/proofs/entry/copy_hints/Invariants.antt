use Rattle.std.proofs.Common.{◌≡◌, take}
use Rattle.oracle_face.proofs.entry.copy_hints.Given as goal

abbrev pub invariant-loop-hint : goal.invariant-loop-hint
invariant-loop-hint l = l.copy ≡ take l.hint-index l.hints
