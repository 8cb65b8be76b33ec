-- Lists of all sets of a mode.
use Rattle.std.specs.Prelude.{ℕ, ◌≤◌, length, true, false, Bool, List, ◌∷◌, map, Contains}
use Rattle.semantics.specs.Frameworks.{Framework}
use Rattle.semantics.specs.Laws.{HasSameMembers}
use Rattle.semantics.specs.Sets.{IsListed}
use Rattle.meaning_atoms.specs.declared.atom.Atom.{Atom}
use Rattle.meaning_atoms.specs.declared.atom.Atom.TheVariants.{Range, Cf, Ad, Co, St}
use Rattle.meaning_atoms.specs.Literals.{affirmed}
use Rattle.meaning_atoms.specs.Worlds.{HoldsOf}
use Rattle.certificate_claims.specs.Claims.{claim_of}
use Rattle.certificate_claims.specs.Refutations.{Claim}
use Rattle.certificate_claims.specs.Rights.{SetsRise}
use Rattle.certificate_claims.specs.SetLiterals.{are_ranged, differs}
use Rattle.oracle_face.specs.declared.face.Found.{Found}
use Rattle.oracle_face.specs.declared.face.Found.TheVariants.{Set, Refuted}
use Rattle.oracle_face.specs.Goals.{Refutes}
use Rattle.oracle_face.specs.Growing.{Making}
use Rattle.oracle_face.specs.Logs.{OracleLog, IsSameClause}
use Rattle.goal_lists.specs.Sides.{AreAsksOf}
use Rattle.enumerate_block.specs.declared.with_mode.Listed.{Listed}
use Rattle.enumerate_block.specs.declared.with_mode.Listed.TheVariants.{Whole, TooMany}
use Rattle.enumerate_block.specs.declared.with_mode.Listing.{Listing}
use Rattle.enumerate_block.specs.Ordered.{GainsInOrder, HasMore, HaveOneForm}

-- the modes whose sets are listed: conflict-free, admissible, complete, and stable
abbrev pub IsListMode : Atom → Type 0
IsListMode Cf = Unit {0}
IsListMode Ad = Unit {0}
IsListMode Co = Unit {0}
IsListMode St = Unit {0}
IsListMode _ = ⊥

-- what sets of the mode are at least, conflict-free or admissible: their side clauses are made from such sets
abbrev pub base_mode : Atom → Atom
base_mode Cf = Cf
base_mode _ = Ad

-- a set of the mode that has all of these in its range, as the atoms of the range say
pub record IsAmong (f : Framework) (mode : Atom) (range e : List ℕ) : Type 0 where
  pub has_mode : HoldsOf f e mode
  pub ranged : (a : ℕ) → Contains range a → HoldsOf f e (Range a)

-- the side clause that a set differs from one that was found by the mode, made from that one
abbrev pub MadeDiffers : Framework → Atom → Making
MadeDiffers f mode literals set = IsSameClause literals (differs f set) × HoldsOf f set (base_mode mode)

-- each set of the mode with this in its range is one of the listed sets
abbrev pub mode_claim : Framework → Atom → List ℕ → List (List ℕ) → Claim
mode_claim f mode range sets = claim_of (affirmed mode ∷ are_ranged range) (map (differs f) sets)

-- such sets, in order, and numbers of side clauses, each that a set differs from one of the sets
pub record IsListing (f : Framework) (log : OracleLog) (mode : Atom) (range : List ℕ) (listing : Listing)
    : Type 0 where
  pub each : (e : List ℕ) → Contains listing.sets.items e → IsAmong f mode range e
  pub asks : AreAsksOf (differs f) log.sides listing.sets.items listing.asks
  pub rise : SetsRise listing.sets.items
  pub one_form : HaveOneForm listing.sets.items

-- such a set that is none of the listed ones, or a step that refutes that there is one
abbrev pub IsFurtherOf : Framework → OracleLog → Atom → List ℕ → Listing → Found → Type 0
IsFurtherOf f log mode range listing (Set set) =
    IsAmong f mode range set × ((e : List ℕ) → Contains listing.sets.items e → HasSameMembers e set → ⊥)
IsFurtherOf f log mode range listing (Refuted step) = Refutes f log (mode_claim f mode range listing.sets.items) step

-- the set is listed, or the list is longer than the limit then
abbrev pub Records : Framework → OracleLog → Atom → List ℕ → ℕ → List ℕ → Listing → Listing → Bool → Type 0
Records f log mode range limit set old new true =
    IsListing f log mode range new × GainsInOrder set old.sets.items new.sets.items × length new.sets.items ≤ limit
Records f log mode range limit set old new false = HasMore (IsAmong f mode range) limit

-- the list of all such sets, no more than the limit, in order, with the evidence that its certificate asks for
pub record IsAllOf (f : Framework) (log : OracleLog) (mode : Atom) (range : List ℕ) (limit : ℕ)
    (sets : List (List ℕ)) (step : ℕ) : Type 0 where
  pub each : (e : List ℕ) → Contains sets e → IsAmong f mode range e
  pub all : (e : List ℕ) → IsAmong f mode range e → IsListed sets e
  pub rise : SetsRise sets
  pub one_form : HaveOneForm sets
  pub within : length sets ≤ limit
  pub refuted : Refutes f log (mode_claim f mode range sets) step

-- all such sets, or that there are more than the limit
abbrev pub IsAllOrMore : Framework → OracleLog → Atom → List ℕ → ℕ → Listed → Type 0
IsAllOrMore f log mode range limit (Whole sets step) = IsAllOf f log mode range limit sets.items step
IsAllOrMore f log mode range limit TooMany = HasMore (IsAmong f mode range) limit
