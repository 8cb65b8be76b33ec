-- What depends on the kind of a framework.
use Rattle.std.specs.Prelude.{ℕ, Bool, true, false, List}
use Rattle.certificate_claims.specs.semantics.specs.Framework.{IsInRange}
use Rattle.certificate_claims.specs.semantics.specs.Frameworks.{Framework, af, aba}
use Rattle.semantics.specs.AbaFrameworks.{collective_of}
use Rattle.semantics.specs.Collectives.{IsInRange as IsInCollectiveRange}

abbrev pub is_assumption_based : Framework → Bool
is_assumption_based (af f) = false
is_assumption_based (aba f) = true

-- a is a member of the set, or a member of the framework that the set attacks
abbrev pub IsRanged : Framework → List ℕ → ℕ → Type 0
IsRanged (af f) set a = IsInRange f set a
IsRanged (aba f) set a = IsInCollectiveRange (collective_of f) set a
