use Rattle.std.proofs.Common.{◌≡◌, take}
use Rattle.refutation_logs.proofs.numbering.pack.Given as goal

abbrev pub invariant-loop-lit : goal.invariant-loop-lit
invariant-loop-lit l = l.packed.items ≡ take l.lit-index l.lits
