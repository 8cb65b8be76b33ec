use Rattle.core_answers.specs.Refuting.{AddsLike}
use Rattle.core_answers.proofs.refuting.add_like.Given as goal

abbrev pub invariant-loop-index : goal.invariant-loop-index
invariant-loop-index l = AddsLike l.sides l.literals l.index l.initial.own l.own
