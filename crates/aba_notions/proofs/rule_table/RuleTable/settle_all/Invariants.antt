use Rattle.std.proofs.Common.{◌≡◌, ℕ, length, true}
use Rattle.std.specs.Prelude.{sum}
use Rattle.aba_notions.specs.Closing.{IsSearchOf, IsMarked, is_derived}
use Rattle.aba_notions.proofs.rule_table.RuleTable.settle_all.Given as goal

abbrev pub invariant-loop-rule : goal.invariant-loop-rule
invariant-loop-rule l = IsSearchOf l.self (IsMarked l.initial.search.derived.items) (length l.self.heads.items) l.search
    × (length l.search.derived.items ≡ length l.initial.search.derived.items)
    × ((x : ℕ) → is_derived l.initial.search.derived.items x ≡ true → is_derived l.search.derived.items x ≡ true)

abbrev pub decreases-loop-rule : goal.decreases-loop-rule
decreases-loop-rule l = sum l.search.open_atoms.items
