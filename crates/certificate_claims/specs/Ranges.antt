-- The ranges of listed sets.
use Rattle.std.specs.Prelude.{◌≡◌, ℕ, ◌∷◌, ◌++◌, if◌then◌else◌, List, [], Contains, filter, map}
use Rattle.lists.specs.Members.{IsWithin}
use Rattle.iccma_tasks.specs.semantics.specs.Framework.{Af}
use Rattle.iccma_tasks.specs.semantics.specs.Frameworks.{Framework}
use Rattle.certificate_claims.specs.declared.ranges.FirstRanged.{FirstRanged}
use Rattle.certificate_claims.specs.Claims.{first_ranged, has_ranged}
use Rattle.certificate_claims.specs.SetLiterals.{range_of, same_range}

-- each set has live arguments alone
abbrev pub AreLive : Af → List (List ℕ) → Type 0
AreLive f sets = (s : List ℕ) → Contains sets s → IsWithin s f.live

-- the sets of a list that are first with their ranges, and these ranges
pub record IsFirstRanged (f : Framework) (list : List (List ℕ)) (found : FirstRanged) : Type 0 where
  pub first : found.sets ≡ first_ranged f list
  pub same : found.ranges ≡ map (range_of f) found.sets

-- a set is added to them unless one of them has its range
pub record AddsIfFirst (f : Framework) (x : List ℕ) (old new : FirstRanged) : Type 0 where
  pub sets : (old.ranges ≡ map (range_of f) old.sets)
      → new.sets ≡ (if has_ranged f old.sets x then old.sets else old.sets ++ x ∷ [])
  pub same : (old.ranges ≡ map (range_of f) old.sets) → new.ranges ≡ map (range_of f) new.sets

-- a set is added where its own range is the one that is looked for, whichever framework gives the ranges
pub record AddsIfRanged (range own x : List ℕ) (old new : List (List ℕ)) : Type 0 where
  pub adds : (f : Framework) (e : List ℕ) → range ≡ range_of f e → own ≡ range_of f x
      → new ≡ old ++ filter (same_range f e) (x ∷ [])

-- those of the sets that have the range, whichever framework gives the ranges
pub record AreWithRange (sets ranges : List (List ℕ)) (range : List ℕ) (found : List (List ℕ)) : Type 0 where
  pub kept : (f : Framework) (e : List ℕ) → ranges ≡ map (range_of f) sets → range ≡ range_of f e
      → found ≡ filter (same_range f e) sets
