-- Lists of all sets of a mode with widest ranges, range by range.
use Rattle.std.specs.Prelude.{◌≡◌, ◌⊎◌, ℕ, ◌<◌, ◌≤◌, true, false, Bool, List, [], ◌∷◌, ◌++◌, length, map, Contains}
use Rattle.std.specs.Prelude.{slice_index_or, Option, Some, None}
use Rattle.semantics.specs.declared.mode.Mode.{Mode}
use Rattle.semantics.specs.Frameworks.{Framework}
use Rattle.semantics.specs.Sets.{IsListed}
use Rattle.meaning_atoms.specs.Worlds.{HoldsOf}
use Rattle.certificate_claims.specs.Acceptance.{no_claim}
use Rattle.certificate_claims.specs.Claims.{first_ranged, mode_atom, range_cover, range_listed, range_widest}
use Rattle.certificate_claims.specs.Claims.{widest_semantics}
use Rattle.certificate_claims.specs.Refutations.{Claim}
use Rattle.certificate_claims.specs.Rights.{IsExtension, SetsRise}
use Rattle.certificate_claims.specs.SetLiterals.{differs, same_range, wider}
use Rattle.oracle_face.specs.declared.face.Found.{Found}
use Rattle.oracle_face.specs.declared.face.Found.TheVariants.{Set, Refuted}
use Rattle.oracle_face.specs.Goals.{Refutes}
use Rattle.oracle_face.specs.Growing.{Making}
use Rattle.oracle_face.specs.Kinds.{is_assumption_based}
use Rattle.oracle_face.specs.Logs.{OracleLog, IsSameClause}
use Rattle.enumerate_block.specs.goal_lists.specs.Asking.{AreApart}
use Rattle.enumerate_block.specs.goal_lists.specs.Sides.{AreAsksOf, IsAskOf}
use Rattle.semi_stable.specs.declared.widest.Widest.{Widest}
use Rattle.semi_stable.specs.Widest.{IsRangeIn, IsWidestFrom}
use Rattle.enumerate_block.specs.Ordered.{HasMore, HaveOneForm, Precedes}
use Rattle.enumerate_block.specs.declared.ranges.Ranged.{Ranged}
use Rattle.enumerate_block.specs.declared.ranges.Ranged.TheVariants.{Whole, TooMany}
use Rattle.enumerate_block.specs.declared.ranges.Ranges.{Ranges}
use Rattle.enumerate_block.specs.Marks.{IsPaired}

-- a side clause made from a set of the mode: that something is in the range that isn't in its range, or that a set
-- differs from it
abbrev pub MadeForRanges : Framework → Mode → Making
MadeForRanges f mode literals set =
    HoldsOf f set (mode_atom mode) × (IsSameClause literals (wider f set) ⊎ IsSameClause literals (differs f set))

-- the steps refute the claims, each the one at its place
pub record AreRefuted (f : Framework) (log : OracleLog) (list : List Claim) (steps : List ℕ) : Type 0 where
  pub number : length steps ≡ length list
  pub each : (k : ℕ) → k < length steps → Refutes f log (slice_index_or list k no_claim) (slice_index_or steps k 0)

-- ---- the search

-- a set with a step is the first of those with its range, and the step refutes that there is another one with it; a set
-- without is not the first
abbrev pub IsMark : Framework → OracleLog → Mode → List (List ℕ) → List ℕ → Option ℕ → Type 0
IsMark f log mode sets s (Some step) =
    Refutes f log (range_listed f mode sets s) step
    × ((t : List ℕ) → Contains sets t → same_range f t s ≡ true → Precedes t s → ⊥)
IsMark f log mode sets s None = (t : List ℕ) × Contains sets t × (same_range f t s ≡ true) × Precedes t s

-- a set of the mode with a widest range, and a step of the log that refutes that a set of the mode has all of its range
-- and more
pub record IsShownWidest (f : Framework) (log : OracleLog) (mode : Mode) (e : List ℕ) : Type 0 where
  pub is_widest : IsExtension f (widest_semantics mode) e
  pub number : ℕ
  pub refuted : Refutes f log (range_widest f mode e) number

-- sets of the mode with widest ranges, in an abstract framework, in order and marked, all with each range that one of
-- them has, and each with a step that shows that it is one; and different side clauses, each that something is in the
-- range that isn't in that of one of the sets
pub record AreFound (f : Framework) (log : OracleLog) (mode : Mode) (found : Ranges) : Type 0 where
  pub kind : is_assumption_based f ≡ false
  pub each : (e : List ℕ) → Contains found.sets.items e → IsShownWidest f log mode e
  pub asks : AreAsksOf (wider f) log.sides found.sets.items found.asks
  pub apart : AreApart found.asks
  pub rise : SetsRise found.sets.items
  pub one_form : HaveOneForm found.sets.items
  pub marked : length found.marks.items ≡ length found.sets.items
  pub marks : (s : List ℕ) (mark : Option ℕ) → IsPaired found.sets.items found.marks.items s mark
      → IsMark f log mode found.sets.items s mark

-- a set of the mode whose range lies in none of the sets', or a step that refutes that there is one
abbrev pub IsUncovered : Framework → OracleLog → Mode → Ranges → Found → Type 0
IsUncovered f log mode found (Set set) =
    HoldsOf f set (mode_atom mode) × ((e : List ℕ) → Contains found.sets.items e → IsRangeIn f set e → ⊥)
IsUncovered f log mode found (Refuted step) = Refutes f log (range_cover f mode [] found.sets.items) step

-- a set with a widest range that holds the set's; of what was found only the side clauses gain one, that of the range
pub record GrowsRange (f : Framework) (log : OracleLog) (mode : Mode) (set : List ℕ) (old new : Ranges)
    (widest : Widest) : Type 0 where
  pub is_widest : IsWidestFrom f log mode set widest
  pub sets : new.sets ≡ old.sets
  pub marks : new.marks ≡ old.marks
  pub number : ℕ
  pub asks : new.asks ≡ old.asks ++ number ∷ []
  pub ask : IsAskOf log.sides (wider f widest.set) number

-- the sets with one range more, which lay in none of those before, with its side clause
pub record Gains (f : Framework) (log : OracleLog) (mode : Mode) (limit : ℕ) (old new : Ranges) : Type 0 where
  pub set : List ℕ
  pub number : ℕ
  pub member : Contains new.sets.items set
  pub keeps : (e : List ℕ) → Contains old.sets.items e → Contains new.sets.items e
  pub outside_all : (e : List ℕ) → Contains old.sets.items e → IsRangeIn f set e → ⊥
  pub asks : new.asks ≡ old.asks ++ number ∷ []
  pub found : AreFound f log mode new
  pub room : length new.sets.items ≤ limit

-- the sets with one range more are listed, or the list is longer than the limit then
abbrev pub Records : Framework → OracleLog → Mode → ℕ → Ranges → Ranges → Bool → Type 0
Records f log mode limit old new true = Gains f log mode limit old new
Records f log mode limit old new false = HasMore (IsShownWidest f log mode) limit

-- ---- the end

-- all sets of the mode with widest ranges, no more than the limit, in order, with the evidence that their certificate
-- asks for
pub record IsAllWidest (f : Framework) (log : OracleLog) (mode : Mode) (limit : ℕ) (sets : List (List ℕ))
    (steps : List ℕ) : Type 0 where
  pub each : (e : List ℕ) → Contains sets e → IsExtension f (widest_semantics mode) e
  pub all : (e : List ℕ) → IsExtension f (widest_semantics mode) e → IsListed sets e
  pub rise : SetsRise sets
  pub one_form : HaveOneForm sets
  pub within : length sets ≤ limit
  pub refuted : AreRefuted f log
      (range_cover f mode [] (first_ranged f sets) ∷ map (range_listed f mode sets) (first_ranged f sets)) steps

-- all sets of the mode with widest ranges, or more than the limit, each shown to be one
abbrev pub IsAllOrMore : Framework → OracleLog → Mode → ℕ → Ranged → Type 0
IsAllOrMore f log mode limit (Whole sets steps) = IsAllWidest f log mode limit sets.items steps
IsAllOrMore f log mode limit TooMany = HasMore (IsShownWidest f log mode) limit
