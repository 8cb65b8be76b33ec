use Rattle.std.specs.Prelude.{count_by}
use Rattle.core_answers.proofs.ReachLemmas.{IsSettling}
use Rattle.core_answers.proofs.reach.reach_own.Given as goal

abbrev pub invariant-loop-index : goal.invariant-loop-index
invariant-loop-index l = IsSettling l.own l.steps l.marks.items

abbrev pub decreases-loop-index : goal.decreases-loop-index
decreases-loop-index l = count_by (λ b. b) l.marks.items
