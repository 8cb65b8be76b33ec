use Rattle.std.proofs.Common.{◌≡◌, ◌≤◌, ◌<◌, ◌+◌, ◌-◌, ℕ, [], length, get_or, sum, true}
use Rattle.attack_index.specs.semantics.specs.Framework.{Attacks}
use Rattle.dung_notions.specs.Search.{IsSearchOf, is_out}
use Rattle.dung_notions.proofs.af_plain.AfPlain.run_rounds.Given as goal

abbrev pub invariant-loop-head : goal.invariant-loop-head
invariant-loop-head l = IsSearchOf l.self l.search
    × (l.search.pending.items ≡ [])
    × (l.head ≤ length l.search.members.items)
    × ((k b : ℕ) → k < l.head → Attacks l.self (get_or l.search.members.items k 0) b
    → is_out l.search.out.items b ≡ true)

abbrev pub decreases-loop-head : goal.decreases-loop-head
decreases-loop-head l = sum l.search.open_attackers.items + length l.search.members.items - l.head
