use Rattle.std.proofs.Common.{◌≡◌, ◌≤◌, ◌<◌, ℕ, get_or}
use Rattle.attack_index.specs.semantics.specs.Framework.{Attacks}
use Rattle.dung_notions.specs.Search.{PutsOut}
use Rattle.dung_notions.proofs.af_plain.AfPlain.defeat_targets_from.Given as goal

abbrev pub invariant-loop-index : goal.invariant-loop-index
invariant-loop-index l = PutsOut l.self (λ b. (k : ℕ) × (l.head ≤ k) × (k < l.index)
    × Attacks l.self (get_or l.search.members.items k 0) b)
    l.initial.search.members.items l.initial.search.out.items l.initial.search.open_attackers.items
    l.search.out.items l.search.pending.items
    × (l.search.members.items ≡ l.initial.search.members.items)
    × (l.search.open_attackers.items ≡ l.initial.search.open_attackers.items)
