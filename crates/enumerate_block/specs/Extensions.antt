-- Lists of all extensions, and what shows that they are.
use Rattle.std.specs.Prelude.{◌≡◌, ◌⊎◌, ℕ, ◌≤◌, List, [], ◌∷◌, length, None}
use Rattle.semantics.specs.Frameworks.{Framework}
use Rattle.meaning_atoms.specs.declared.atom.Atom.{Atom}
use Rattle.meaning_atoms.specs.declared.atom.Atom.TheVariants.{Cf, Ad, Co, St}
use Rattle.meaning_atoms.specs.Worlds.{HoldsOf}
use Rattle.iccma_tasks.specs.declared.answer.Answer.{Answer}
use Rattle.iccma_tasks.specs.declared.answer.Answer.TheVariants.{No, Sets}
use Rattle.iccma_tasks.specs.declared.task.Problem.TheVariants.{AllExtensions}
use Rattle.iccma_tasks.specs.declared.task.Semantics.{Semantics}
use Rattle.iccma_tasks.specs.declared.task.Semantics.TheVariants.{Complete, Stable, Preferred, SemiStable, Stage}
use Rattle.iccma_tasks.specs.declared.task.Task.{Task}
use Rattle.iccma_tasks.specs.Tasks.{Asked, IsTaskOf, task_of}
use Rattle.certificate_claims.specs.declared.row.Row.{Row}
use Rattle.certificate_claims.specs.Acceptance.{Tests}
use Rattle.certificate_claims.specs.Claims.{claims, row_of, sets_of}
use Rattle.certificate_claims.specs.Rights.{AreAll}
use Rattle.certificate_claims.specs.SetLiterals.{differs, outside, wider}
use Rattle.oracle_face.specs.Growing.{Making}
use Rattle.oracle_face.specs.Logs.{IsSameClause, OracleLog}
use Rattle.edit_rules.specs.Kinds.{kind_of}
use Rattle.session_log.specs.Ends.{IsShownBy, some_asked}
use Rattle.enumerate_block.specs.declared.with_mode.Listed.{Listed}
use Rattle.enumerate_block.specs.declared.with_mode.Listed.TheVariants.{Whole, TooMany as MoreThanListed}
use Rattle.enumerate_block.specs.Ordered.{HasMore, TheyDiffer}
use Rattle.enumerate_block.specs.declared.ranges.Ranged.{Ranged}
use Rattle.enumerate_block.specs.declared.ranges.Ranged.TheVariants.{Whole as WholeRanged, TooMany as MoreThanRanged}
use Rattle.enumerate_block.specs.Ranges.{AreRefuted}
use Rattle.enumerate_block.specs.declared.extensions.Extensions.{Extensions}
use Rattle.enumerate_block.specs.declared.extensions.Extensions.TheVariants.{All, TooMany}

-- the task asks for all extensions, by a semantics of which frameworks of this kind are asked for all
pub record IsListTask (f : Framework) (task : Task) : Type 0 where
  pub problem : task.problem ≡ AllExtensions
  pub has : IsTaskOf (kind_of f) task

-- the mode says that a set is an extension
abbrev pub IsModeOf : Semantics → Atom → Type 0
IsModeOf Complete Co = Unit {0}
IsModeOf Stable St = Unit {0}
IsModeOf _ _ = ⊥

-- a side clause made from an admissible set, or by stage sets from a conflict-free one, by the semantics: that a set
-- differs from it; that something lies outside it; or either that something is in the range that isn't in its range, or
-- that a set differs from it
abbrev pub MadeForAll : Framework → Semantics → Making
MadeForAll f Complete literals set = HoldsOf f set Ad × IsSameClause literals (differs f set)
MadeForAll f Stable literals set = HoldsOf f set Ad × IsSameClause literals (differs f set)
MadeForAll f Preferred literals set = HoldsOf f set Ad × IsSameClause literals (outside f set)
MadeForAll f SemiStable literals set =
    HoldsOf f set Ad × (IsSameClause literals (wider f set) ⊎ IsSameClause literals (differs f set))
MadeForAll f Stage literals set =
    HoldsOf f set Cf × (IsSameClause literals (wider f set) ⊎ IsSameClause literals (differs f set))
MadeForAll f _ literals set = ⊥

-- ---- the answer

-- the query for all extensions
abbrev pub asked_all : Semantics → Asked
asked_all semantics = record { task = task_of AllExtensions semantics; number = None }

-- the answer that lists sets, or says that there are none
abbrev pub answer_of : List (List ℕ) → Answer
answer_of [] = No None
answer_of (e ∷ more) = Sets (e ∷ more)

-- its row in the table of certificates
abbrev pub row_all : Framework → Semantics → List (List ℕ) → Row
row_all f semantics sets = row_of f (asked_all semantics) (answer_of sets)

-- the sets are all extensions, no more than the limit, in order and different. With the steps, each of which refutes
-- the claim at its place, they show so: the direct tests of a certificate without sets pass, and its claims are these.
pub record AreExtensions (f : Framework) (log : OracleLog) (semantics : Semantics) (limit : ℕ)
    (sets : List (List ℕ)) (steps : List ℕ) : Type 0 where
  pub all : AreAll f semantics sets
  pub differ : TheyDiffer sets
  pub within : length sets ≤ limit
  pub tests : Tests f (asked_all semantics) (row_all f semantics sets) (sets_of (answer_of sets)) []
  pub refuted : AreRefuted f log (claims f (row_all f semantics sets) []) steps

-- the set is shown as an answer to the query for one extension
abbrev pub IsShownOne : Framework → OracleLog → Semantics → List ℕ → Type 0
IsShownOne f log semantics e = IsShownBy f (some_asked semantics) (Sets (e ∷ [])) [] log

-- all extensions with what shows so, or more different sets than the limit, each shown to be an extension
abbrev pub IsListOf : Framework → OracleLog → Semantics → ℕ → Extensions → Type 0
IsListOf f log semantics limit (All sets steps) = AreExtensions f log semantics limit sets steps
IsListOf f log semantics limit TooMany = HasMore (IsShownOne f log semantics) limit

-- ---- lists from below

abbrev pub with_step : Listed → Extensions
with_step (Whole sets step) = All sets.items (step ∷ [])
with_step MoreThanListed = TooMany

abbrev pub with_steps : Ranged → Extensions
with_steps (WholeRanged sets steps) = All sets.items steps
with_steps MoreThanRanged = TooMany
