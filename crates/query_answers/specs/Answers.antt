-- What answers a query, and what shows that it does.
use Rattle.std.specs.Prelude.{◌≡◌, ◌↔◌, ℕ, Bool, true, false, List, Option, Some, None, IsTrue}
use Rattle.lists.specs.Members.{IsWithin}
use Rattle.plain_lits.specs.declared.halt.Halt.{Halt}
use Rattle.plain_lits.specs.Units.{Units}
use Rattle.semantics.specs.Frameworks.{Framework}
use Rattle.meaning_atoms.specs.declared.atom.Atom.TheVariants.{Ad}
use Rattle.meaning_atoms.specs.Worlds.{HoldsOf}
use Rattle.iccma_tasks.specs.declared.task.Problem.{Problem}
use Rattle.iccma_tasks.specs.declared.task.Problem.TheVariants.{Credulous, Sceptical, SomeExtension, AllExtensions}
use Rattle.iccma_tasks.specs.declared.task.Semantics.{Semantics}
use Rattle.iccma_tasks.specs.declared.task.Semantics.TheVariants.{Complete, Preferred}
use Rattle.iccma_tasks.specs.Tasks.{Asked, task_of}
use Rattle.certificate_claims.specs.Acceptance.{Tests}
use Rattle.certificate_claims.specs.Claims.{claims, row_of, sets_of}
use Rattle.certificate_claims.specs.Rights.{Accepts, IsExtension}
use Rattle.oracle_face.specs.declared.face.Found.{Found}
use Rattle.oracle_face.specs.declared.face.Found.TheVariants.{Set, Refuted}
use Rattle.oracle_face.specs.declared.oracle.Oracle.{Ghosts as OracleWords}
use Rattle.oracle_face.specs.Logs.{OracleLog}
use Rattle.goal_lists.specs.Runs.{RanInAll}
use Rattle.session_log.specs.Ends.{AreTooMany as ShownAreTooMany, MadeFor, is_by_grounded}
use Rattle.edit_rules.specs.Fitting.{Fits}
use Rattle.enumerate_block.specs.Ranges.{AreRefuted}
use Rattle.query_answers.specs.declared.evidence.Evidence.{Evidence}
use Rattle.query_answers.specs.declared.evidence.SearchOutcome.{SearchOutcome}
use Rattle.query_answers.specs.declared.evidence.SearchOutcome.TheVariants.{Shown, TooMany}

-- ---- outcomes

-- the direct tests of the answer and of the certificate's sets pass, and the steps refute the claims of the answer's
-- row, each the one at its place
pub record IsEvidence (f : Framework) (asked : Asked) (log : OracleLog) (evidence : Evidence) : Type 0 where
  pub tests : Tests f asked (row_of f asked evidence.answer) (sets_of evidence.answer) evidence.sets
  pub refuted : AreRefuted f log (claims f (row_of f asked evidence.answer) evidence.sets) evidence.steps

-- all extensions are asked for, and there are more different ones than so many, each shown by the log
abbrev pub AreTooMany : Framework → Asked → ℕ → OracleLog → Type 0
AreTooMany f asked most log = (sets : List (List ℕ)) × ShownAreTooMany f asked most log sets

-- an answer with what shows it, or more extensions than so many
abbrev pub IsOutcome : Framework → Asked → ℕ → OracleLog → SearchOutcome → Type 0
IsOutcome f asked most log (Shown evidence) = IsEvidence f asked log evidence
IsOutcome f asked most log TooMany = AreTooMany f asked most log

-- ---- tasks

-- one set answers the problem, or that there is none
abbrev pub IsOne : Problem → Type 0
IsOne AllExtensions = ⊥
IsOne _ = Unit {0}

-- such a query that fits the framework
pub record AsksOne (f : Framework) (asked : Asked) : Type 0 where
  pub fits : Fits f asked
  pub one : IsOne asked.task.problem
  pub by_search : is_by_grounded asked.task.problem asked.task.semantics ≡ false

-- such a query by this semantics
pub record AsksBy (f : Framework) (asked : Asked) (semantics : Semantics) : Type 0 where
  pub query : AsksOne f asked
  pub same : asked.task.semantics ≡ semantics

-- the query for all extensions, which fits the framework
pub record AsksAll (f : Framework) (asked : Asked) : Type 0 where
  pub fits : Fits f asked
  pub all : asked.task.problem ≡ AllExtensions

-- the query of a problem and a semantics about this number
pub record AsksAbout (f : Framework) (asked : Asked) (problem : Problem) (semantics : Semantics) (goal : ℕ) : Type 0
  where
    pub fits : Fits f asked
    pub same : asked.task ≡ task_of problem semantics
    pub about : asked.number ≡ Some goal

-- the query for one extension of a semantics
pub record AsksSome (f : Framework) (asked : Asked) (semantics : Semantics) : Type 0 where
  pub fits : Fits f asked
  pub same : asked.task ≡ task_of SomeExtension semantics

-- a set that accepts the number shows YES to DC, and one that doesn't shows NO to DS
abbrev pub problem_of : Bool → Problem
problem_of true = Credulous
problem_of false = Sceptical

-- ---- what is searched for

-- an admissible set, if there is one
abbrev pub IsAdmissibleIn : Framework → Found → Type 0
IsAdmissibleIn f (Set set) = HoldsOf f set Ad
IsAdmissibleIn f (Refuted step) = Unit {0}

-- a complete set that holds the found one; where there is none, nothing else is found
abbrev pub IsCompleted : Framework → Found → Found → Type 0
IsCompleted f (Set set) (Set grown) = IsExtension f Complete grown × IsWithin set grown
IsCompleted f (Refuted step) (Refuted same) = same ≡ step
IsCompleted f _ _ = ⊥

-- what holds the set accepts the query, if one is asked about
abbrev pub HoldsQuery : Framework → Problem → Option ℕ → List ℕ → Type 0
HoldsQuery f Credulous (Some q) set = Accepts f set q
HoldsQuery f SomeExtension None set = Unit {0}
HoldsQuery f _ _ set = ⊥

-- a preferred set that holds this one shows the answer
pub record BeginsLargest (f : Framework) (asked : Asked) (set : List ℕ) : Type 0 where
  pub same : asked.task.semantics ≡ Preferred
  pub admissible : HoldsOf f set Ad
  pub holds : HoldsQuery f asked.task.problem asked.number set

-- whether the set accepts the query, if one is asked about
abbrev pub IsSaid : Framework → Option ℕ → List ℕ → Bool → Type 0
IsSaid f (Some q) set accepts = IsTrue accepts ↔ Accepts f set q
IsSaid f None set accepts = Unit {0}

-- what calls leave that answer the query
abbrev pub RanFor : {S : Type 0} → OracleWords S → Asked → S → S → Units → Units → Option Halt → Type 0
RanFor oracle asked old new before after halt = RanInAll oracle (λ f. MadeFor f asked) old new before after halt
