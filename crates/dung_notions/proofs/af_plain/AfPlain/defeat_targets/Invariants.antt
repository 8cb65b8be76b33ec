use Rattle.std.proofs.Common.{◌≡◌, ◌<◌, ℕ, get_or}
use Rattle.dung_notions.specs.Search.{PutsOut}
use Rattle.dung_notions.proofs.af_plain.AfPlain.defeat_targets.Given as goal

abbrev pub invariant-loop-pair : goal.invariant-loop-pair
invariant-loop-pair l = PutsOut l.self (λ b. (k : ℕ) × (k < l.pair-index)
    × ((get_or l.leaving k (0, 0)).1 ≡ b))
    l.initial.search.members.items l.initial.search.out.items l.initial.search.open_attackers.items
    l.search.out.items l.search.pending.items
    × (l.search.members.items ≡ l.initial.search.members.items)
    × (l.search.open_attackers.items ≡ l.initial.search.open_attackers.items)
