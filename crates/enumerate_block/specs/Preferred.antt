-- Lists of all preferred sets.
use Rattle.std.specs.Prelude.{◌≡◌, ℕ, ◌≤◌, length, true, false, Bool, List, [], ◌∷◌, ◌++◌, map, Contains}
use Rattle.lists.specs.Members.{IsWithin}
use Rattle.semantics.specs.Frameworks.{Framework}
use Rattle.semantics.specs.Sets.{IsListed}
use Rattle.meaning_atoms.specs.declared.atom.Atom.TheVariants.{Ad}
use Rattle.meaning_atoms.specs.Literals.{affirmed}
use Rattle.meaning_atoms.specs.Worlds.{HoldsOf}
use Rattle.iccma_tasks.specs.declared.task.Semantics.TheVariants.{Preferred as Largest}
use Rattle.certificate_claims.specs.Claims.{claim_of}
use Rattle.certificate_claims.specs.Refutations.{Claim}
use Rattle.certificate_claims.specs.Rights.{IsExtension, SetsRise}
use Rattle.certificate_claims.specs.SetLiterals.{outside}
use Rattle.oracle_face.specs.declared.face.Found.{Found}
use Rattle.oracle_face.specs.declared.face.Found.TheVariants.{Set, Refuted}
use Rattle.oracle_face.specs.Goals.{Refutes}
use Rattle.oracle_face.specs.Logs.{OracleLog}
use Rattle.cegar_preferred.specs.Largest.{largest_claim}
use Rattle.enumerate_block.specs.goal_lists.specs.Asking.{AreApart}
use Rattle.enumerate_block.specs.goal_lists.specs.Sides.{AreAsksOf}
use Rattle.enumerate_block.specs.declared.with_mode.Listed.{Listed}
use Rattle.enumerate_block.specs.declared.with_mode.Listed.TheVariants.{Whole, TooMany}
use Rattle.enumerate_block.specs.Ordered.{GainsInOrder, HasMore, HaveOneForm}
use Rattle.enumerate_block.specs.declared.preferred.Preferred.{Preferred}

-- each admissible set lies in one of the sets
abbrev pub cover_claim : Framework → List (List ℕ) → Claim
cover_claim f sets = claim_of (affirmed Ad ∷ []) (map (outside f) sets)

-- a preferred set, and a step of the log that refutes that an admissible set holds it and more
pub record IsShownLargest (f : Framework) (log : OracleLog) (e : List ℕ) : Type 0 where
  pub preferred : IsExtension f Largest e
  pub number : ℕ
  pub refuted : Refutes f log (largest_claim f e) number

-- preferred sets, in order, each with a step that shows that it is one; and different side clauses, each that something
-- lies outside one of the sets
pub record AreFound (f : Framework) (log : OracleLog) (found : Preferred) : Type 0 where
  pub each : (e : List ℕ) → Contains found.sets.items e → IsShownLargest f log e
  pub asks : AreAsksOf (outside f) log.sides found.sets.items found.asks
  pub apart : AreApart found.asks
  pub rise : SetsRise found.sets.items
  pub one_form : HaveOneForm found.sets.items

-- an admissible set that lies in none of the sets, or a step that refutes that there is one
abbrev pub IsUncovered : Framework → OracleLog → Preferred → Found → Type 0
IsUncovered f log found (Set set) =
    HoldsOf f set Ad × ((e : List ℕ) → Contains found.sets.items e → IsWithin set e → ⊥)
IsUncovered f log found (Refuted step) = Refutes f log (cover_claim f found.sets.items) step

-- one preferred set more, which lay in none of those before, with its side clause
pub record Gains (f : Framework) (log : OracleLog) (limit : ℕ) (old new : Preferred) : Type 0 where
  pub set : List ℕ
  pub number : ℕ
  pub sets : GainsInOrder set old.sets.items new.sets.items
  pub asks : new.asks ≡ old.asks ++ number ∷ []
  pub outside_all : (e : List ℕ) → Contains old.sets.items e → IsWithin set e → ⊥
  pub found : AreFound f log new
  pub room : length new.sets.items ≤ limit

-- one preferred set more is listed, or the list is longer than the limit then
abbrev pub Records : Framework → OracleLog → ℕ → Preferred → Preferred → Bool → Type 0
Records f log limit old new true = Gains f log limit old new
Records f log limit old new false = HasMore (IsShownLargest f log) limit

-- all preferred sets, no more than the limit, in order, with the evidence that their certificate asks for
pub record IsAllPreferred (f : Framework) (log : OracleLog) (limit : ℕ) (sets : List (List ℕ)) (step : ℕ) : Type 0 where
  pub each : (e : List ℕ) → Contains sets e → IsExtension f Largest e
  pub all : (e : List ℕ) → IsExtension f Largest e → IsListed sets e
  pub rise : SetsRise sets
  pub one_form : HaveOneForm sets
  pub within : length sets ≤ limit
  pub refuted : Refutes f log (cover_claim f sets) step

-- all preferred sets, or more than the limit, each shown to be one
abbrev pub IsAllOrMore : Framework → OracleLog → ℕ → Listed → Type 0
IsAllOrMore f log limit (Whole sets step) = IsAllPreferred f log limit sets.items step
IsAllOrMore f log limit TooMany = HasMore (IsShownLargest f log) limit
