-- The inner state of trimming, which no caller sees: a mark for each number of a step.
use Rattle.std.specs.Prelude.{◌≡◌, ◌⊎◌, ℕ, ◌+◌, ◌<◌, ◌≤◌, Bool, true, false, List, length, Contains}
use Rattle.std.specs.Prelude.{slice_index_or}
use Rattle.hinted_log.specs.Logs.{Step, step_at, Reaches}

-- a number has a mark
abbrev pub IsMarked : List Bool → ℕ → Type 0
IsMarked marks j = slice_index_or marks j false ≡ true

-- each of the hints is marked, and what was marked before
pub record MarksHints (hints : List ℕ) (old new : List Bool) : Type 0 where
  pub long : length new ≡ length old
  pub there : (j : ℕ) → IsMarked new j → IsMarked old j ⊎ Contains hints j
  pub kept : (j : ℕ) → IsMarked old j → IsMarked new j
  pub back : (j : ℕ) → Contains hints j → IsMarked new j

-- a walk down from a step: the step is marked, each marked number is reached, and so are marked the hints of each
-- marked step above a number
pub record IsWalk (steps : List Step) (step number : ℕ) (marks : List Bool) : Type 0 where
  pub long : length marks ≡ step + 1
  pub within : number ≤ step
  pub start : IsMarked marks step
  pub sound : (j : ℕ) → IsMarked marks j → Reaches steps step j
  pub closed : (j hint : ℕ) → number < j → IsMarked marks j → Contains (step_at steps j).hints hint
      → IsMarked marks hint
