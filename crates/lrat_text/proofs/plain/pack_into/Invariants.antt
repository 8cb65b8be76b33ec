use Rattle.std.proofs.Common.{◌≡◌, take}
use Rattle.lrat_text.proofs.plain.pack_into.Given as goal

abbrev pub invariant-loop-lit : goal.invariant-loop-lit
invariant-loop-lit l = l.packed.items ≡ take l.lit-index l.clause
