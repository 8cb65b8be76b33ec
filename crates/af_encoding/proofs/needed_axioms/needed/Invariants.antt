use Rattle.std.proofs.Common.{[]}
use Rattle.af_encoding.specs.Enumerations.{GainsEach}
use Rattle.af_encoding.proofs.NeededLemmas.{IsNeededUpTo}
use Rattle.af_encoding.proofs.needed_axioms.needed.Given as goal

abbrev pub invariant-loop-argument : goal.invariant-loop-argument
invariant-loop-argument l = GainsEach (IsNeededUpTo l.plain l.argument-index) [] l.names.items
