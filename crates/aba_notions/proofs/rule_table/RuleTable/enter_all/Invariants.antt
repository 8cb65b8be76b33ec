use Rattle.std.proofs.Common.{◌≡◌, ◌<◌, ℕ, length, get_or, true}
use Rattle.std.specs.Prelude.{Contains}
use Rattle.aba_notions.specs.Closing.{IsSearchOf, is_derived}
use Rattle.aba_notions.proofs.rule_table.RuleTable.enter_all.Given as goal

abbrev pub invariant-loop-atom : goal.invariant-loop-atom
invariant-loop-atom l = IsSearchOf l.self (Contains l.given) 0 l.search
    × ((j : ℕ) → j < l.atom-index → is_derived l.search.derived.items (get_or l.given j 0) ≡ true)
    × (length l.search.derived.items ≡ length l.initial.search.derived.items)
