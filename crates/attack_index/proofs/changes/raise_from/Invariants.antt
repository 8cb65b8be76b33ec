use Rattle.std.proofs.Common.{◌≡◌, ◌+◌, ◌≤◌}
use Rattle.attack_index.proofs.ChangeLemmas.{AreChangedTo}
use Rattle.attack_index.proofs.changes.raise_from.Given as goal

abbrev pub invariant-loop-index : goal.invariant-loop-index
invariant-loop-index l = (l.from ≤ l.index) × AreChangedTo (λ a b. b ≡ a + 1) l.from l.index l.fn.numbers l.numbers
