-- What is found of sets.
use Rattle.std.specs.Prelude.{◌≡◌, ◌↔◌, ℕ, true, List, Contains}
use Rattle.std.specs.List.{list_any}
use Rattle.semantics.specs.Frameworks.{Framework, af, aba}
use Rattle.certificate_claims.specs.declared.row.Row.{Row}
use Rattle.certificate_claims.specs.declared.row.Row.TheVariants.{AllWidest}
use Rattle.certificate_claims.specs.Ranges.{AreLive}
use Rattle.certificate_claims.specs.SetLiterals.{hits, is_ranged}

-- the list has just what is in the set's range
pub record IsRangeOf (f : Framework) (s range : List ℕ) : Type 0 where
  pub members : (a : ℕ) → Contains range a ↔ (is_ranged f s a ≡ true)

-- the list has just what some set of the list attacks
pub record IsHitBy (f : Framework) (sets : List (List ℕ)) (hit : List ℕ) : Type 0 where
  pub members : (a : ℕ) → Contains hit a ↔ (list_any (λ t. hits f t a) sets ≡ true)

-- sets whose ranges are asked for: the framework is an abstract one, and they have live arguments alone
abbrev pub AreSetsOf : Framework → List (List ℕ) → Type 0
AreSetsOf (af f) sets = AreLive f sets
AreSetsOf (aba f) sets = ⊥

-- so have those of a row whose sets are all the extensions by their ranges
abbrev pub HasSetsOf : Framework → Row → Type 0
HasSetsOf f (AllWidest mode sets) = AreSetsOf f sets
HasSetsOf f _ = Unit {0}
