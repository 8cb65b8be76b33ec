-- The number that a walk over a log keeps for each step, which no caller sees: first a mark, and then the step's number
-- in a certificate.
use Rattle.std.specs.Prelude.{◌≡◌, ◌↔◌, ◌⊎◌, ℕ, ◌+◌, ◌<◌, ◌≤◌, List, ◌∷◌, [], ◌++◌, length, Contains, slice_set}
use Rattle.std.specs.List.Sorted.{IsStrictlyIncreasing}
use Rattle.certificate_claims.specs.declared.certificate.Step.{Step}
use Rattle.oracle_face.specs.Logs.{OracleLog, IsNumberOf, Reaches, hints_of, step_at}
use Rattle.certificate_making.specs.Trimmed.{AreMoved, AreNumbered, IsMovedStep, number_in}

-- the step of this number is marked
abbrev pub IsMarked : List ℕ → ℕ → Type 0
IsMarked numbers j = 0 < number_in numbers j

-- each of the hints is marked, and what was marked before
pub record MarksHints (hints old new : List ℕ) : Type 0 where
  pub long : length new ≡ length old
  pub there : (j : ℕ) → IsMarked new j → IsMarked old j ⊎ Contains hints j
  pub kept : (j : ℕ) → IsMarked old j → IsMarked new j
  pub back : (j : ℕ) → Contains hints j → IsMarked new j

-- a walk down from a step: the step is marked, each marked number is reached, and so are marked the hints of each
-- marked step above a number
pub record IsWalk (log : OracleLog) (step number : ℕ) (marks : List ℕ) : Type 0 where
  pub long : length marks ≡ step + 1
  pub within : number ≤ step
  pub start : IsMarked marks step
  pub sound : (j : ℕ) → IsMarked marks j → Reaches log.steps step j
  pub closed : (j hint : ℕ) → number < j → IsMarked marks j
      → Contains (hints_of (step_at log.steps j).source) hint → IsMarked marks hint

-- just the steps are marked that the step reaches
pub record AreMarks (log : OracleLog) (step : ℕ) (marks : List ℕ) : Type 0 where
  pub long : length marks ≡ step + 1
  pub marked : (j : ℕ) → IsMarked marks j ↔ Reaches log.steps step j

-- the step gets the next number, and is written behind the others
pub record WritesOne (log : OracleLog) (positions : List ℕ) (number : ℕ) (old new : List ℕ)
    (steps more : List Step) : Type 0 where
  pub step : Step
  pub numbered : new ≡ slice_set old number (length steps + 1)
  pub moved : IsMovedStep positions new (step_at log.steps number).source (step_at log.steps number).clause step
  pub behind : more ≡ steps ++ step ∷ []

-- a step that is marked is one of the log, and fewer steps were written than come before it
pub record MayWrite (log : OracleLog) (number : ℕ) (steps : List Step) : Type 0 where
  pub named : IsNumberOf log.steps number
  pub room : length steps < number

-- a step that isn't marked is passed over; one that is gets its number and is written
pub record Writes (log : OracleLog) (positions : List ℕ) (number : ℕ) (old new : List ℕ)
    (steps more : List Step) : Type 0 where
  pub passed : number_in old number ≡ 0 → (new ≡ old) × (more ≡ steps)
  pub written : IsMarked old number → WritesOne log positions number old new steps more

-- the marked steps below a count are written, in rising order, and numbered; from there on steps are still marked
pub record IsWriting (log : OracleLog) (step : ℕ) (positions : List ℕ) (count : ℕ) (numbers : List ℕ)
    (steps : List Step) : Type 0 where
  pub room : length numbers ≡ step + 1
  pub kept : List ℕ
  pub rises : IsStrictlyIncreasing kept
  pub there : (j : ℕ) → Contains kept j → (j < count) × Reaches log.steps step j
  pub back : (j : ℕ) → j < count → Reaches log.steps step j → Contains kept j
  pub numbered : AreNumbered kept numbers (length kept)
  pub moved : AreMoved log positions kept numbers (length kept) steps
  pub marked : (j : ℕ) → count ≤ j → IsMarked numbers j ↔ Reaches log.steps step j
