use Rattle.std.proofs.Common.{◌≡◌, ◌<◌, ℕ, length, get_or, true}
use Rattle.std.specs.Prelude.{Contains}
use Rattle.aba_notions.specs.Closing.{is_derived}
use Rattle.marked_rules.specs.Search.{IsSearch, derived_in, heads_of}
use Rattle.marked_rules.proofs.rule_uses.RuleUses.close.Given as goal

abbrev pub invariant-loop-atom : goal.invariant-loop-atom
invariant-loop-atom l = IsSearch l.plain l.self (Contains l.given) (length (heads_of l.plain)) l.closing
    × ((j : ℕ) → j < l.atom-index → is_derived (derived_in l.self l.closing) (get_or l.given j 0) ≡ true)
