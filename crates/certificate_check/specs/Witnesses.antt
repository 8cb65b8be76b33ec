-- What is known of the sets that an answer shows.
use Rattle.std.specs.Prelude.{◌≡◌, ◌↔◌, ℕ, Bool, List, IsTrue}
use Rattle.semantics.specs.Frameworks.{Framework, aba, af}
use Rattle.iccma_tasks.specs.declared.task.Semantics.{Semantics}
use Rattle.iccma_tasks.specs.declared.task.Semantics.TheVariants.{SemiStable, Stage}
use Rattle.certificate_claims.specs.declared.row.Row.{Row}
use Rattle.certificate_claims.specs.declared.row.Row.TheVariants.{Tested, AllTested, AllWidest}
use Rattle.certificate_claims.specs.Acceptance.{NoRangeWithin}
use Rattle.set_tests.specs.Bases.{IsTested}

-- the extensions under the semantics have the largest ranges
abbrev pub HasRanges : Semantics → Type 0
HasRanges SemiStable = Unit {0}
HasRanges Stage = Unit {0}
HasRanges _ = ⊥

-- a row that shows extensions is of a semantics whose extensions are tested directly, and one that lists them by their
-- ranges of a semantics that ranges define
abbrev pub IsTestedRow : Row → Semantics → Type 0
IsTestedRow (Tested e) semantics = IsTested semantics
IsTestedRow (AllTested mode sets) semantics = IsTested semantics
IsTestedRow (AllWidest mode sets) semantics = HasRanges semantics
IsTestedRow _ semantics = Unit {0}

-- extensions of abstract frameworks alone are listed by their ranges
abbrev pub IsRowOf : Framework → Row → Type 0
IsRowOf (aba f) (AllWidest mode sets) = ⊥
IsRowOf f row = Unit {0}

-- the sets of a row that are all the extensions by their ranges are those that the answer shows
abbrev pub ShowsSets : Row → List (List ℕ) → Type 0
ShowsSets (AllWidest mode sets) shown = sets ≡ shown
ShowsSets _ shown = Unit {0}

-- whether no set's range lies in another, different one
pub record TellsApart (f : Framework) (sets : List (List ℕ)) (apart : Bool) : Type 0 where
  pub tells : IsTrue apart ↔ NoRangeWithin f sets
