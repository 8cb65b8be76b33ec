-- Which assumptions are attacked where a search has found what follows from a set.
use Rattle.std.specs.Prelude.{◌≡◌, ◌↔◌, ◌⊎◌, ℕ, List, Contains}
use Rattle.semantics.specs.AbaFrameworks.{Aba}
use Rattle.aba_notions.specs.Closing.{IsMarked}
use Rattle.marked_rules.specs.declared.closing.Closing.{Closing}
use Rattle.marked_rules.specs.declared.rule_uses.RuleUses.{RuleUses}
use Rattle.marked_rules.specs.Search.{derived_in}

-- no contrary of the assumption is derived
abbrev pub IsQuiet : RuleUses → Closing → ℕ → Type 0
IsQuiet u c a = (x : ℕ) → Contains u.contraries.pairs (a, x) → IsMarked (derived_in u c) x → ⊥

-- x is an assumption no contrary of which is derived
pub record IsSpared (f : Aba) (u : RuleUses) (c : Closing) (x : ℕ) : Type 0 where
  pub assumed : Contains f.assumptions x
  pub quiet : IsQuiet u c x

-- the number has been added if P holds of it
pub record Keeps (number : ℕ) (P : ℕ → Type 0) (old new : List ℕ) : Type 0 where
  pub each : (x : ℕ) → Contains new x ↔ (Contains old x ⊎ ((x ≡ number) × P x))
