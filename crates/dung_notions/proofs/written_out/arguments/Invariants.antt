use Rattle.attack_index.specs.semantics.specs.Arguments.{IsArgument}
use Rattle.dung_notions.proofs.WrittenOutLemmas.{HasFitting}
use Rattle.dung_notions.proofs.written_out.arguments.Given as goal

abbrev pub invariant-loop-number : goal.invariant-loop-number
invariant-loop-number l = HasFitting IsArgument l.numbers l.number-index l.found.items
