use Rattle.std.proofs.Common.{◌<◌, ℕ, [], get_or}
use Rattle.semantics.specs.Laws.{HasSameMembers}
use Rattle.core_answers.proofs.showing.they_differ.Given as goal

abbrev pub invariant-loop-index : goal.invariant-loop-index
invariant-loop-index l =
    (i j : ℕ) → i < j → j < l.index → HasSameMembers (get_or l.sets i []) (get_or l.sets j []) → ⊥
