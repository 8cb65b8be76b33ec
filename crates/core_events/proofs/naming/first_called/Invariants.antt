use Rattle.std.proofs.Common.{ℕ, ◌≤◌}
use Rattle.core_events.specs.Naming.{IsCalledAt}
use Rattle.core_events.proofs.naming.first_called.Given as goal

abbrev pub invariant-loop-before : goal.invariant-loop-before
invariant-loop-before l = (n : ℕ) → n ≤ l.before → IsCalledAt l.own l.steps l.name n → ⊥
