use Rattle.std.proofs.Common.{◌≡◌, map, take}
use Rattle.meaning_atoms.specs.Literals.{negated}
use Rattle.core_logs.proofs.checking.negations.Given as goal

abbrev pub invariant-loop-literal : goal.invariant-loop-literal
invariant-loop-literal l = l.negations.items ≡ map negated (take l.literal-index l.clause)
