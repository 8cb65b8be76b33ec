-- How a query may end: what serves it while it is worked on, and what an answer or a stop rests on.
use Rattle.std.specs.Prelude.{◌≡◌, ℕ, ◌+◌, ◌*◌, ◌<◌, ◌≤◌, Bool, true, false, List, [], ◌∷◌, length, take, Contains}
use Rattle.std.specs.Prelude.{slice_index_or, Option, Some, None, Ok}
use Rattle.plain_lits.specs.declared.halt.Halt.{Halt}
use Rattle.plain_lits.specs.declared.halt.Halt.TheVariants.{LogFull, Spent}
use Rattle.plain_lits.specs.HintCheck.{Checks}
use Rattle.plain_lits.specs.Units.{Units}
use Rattle.semantics.specs.Frameworks.{Framework}
use Rattle.semantics.specs.Laws.{HasSameMembers}
use Rattle.meaning_atoms.specs.declared.atom.Atom.{Atom}
use Rattle.meaning_atoms.specs.declared.atom.Atom.TheVariants.{Cf, Ad}
use Rattle.meaning_atoms.specs.declared.atom.AtomLit.{AtomLit}
use Rattle.meaning_atoms.specs.declared.axiom.AxiomName.{AxiomName}
use Rattle.meaning_atoms.specs.Literals.{negated}
use Rattle.meaning_atoms.specs.Worlds.{HoldsOf}
use Rattle.iccma_tasks.specs.declared.answer.Answer.{Answer}
use Rattle.iccma_tasks.specs.declared.answer.Answer.TheVariants.{Sets}
use Rattle.iccma_tasks.specs.declared.task.Problem.{Problem}
use Rattle.iccma_tasks.specs.declared.task.Problem.TheVariants.{Credulous, Sceptical, SomeExtension, AllExtensions}
use Rattle.iccma_tasks.specs.declared.task.Semantics.{Semantics}
use Rattle.iccma_tasks.specs.declared.task.Semantics.TheVariants.{Complete, Grounded, Preferred, Stable, SemiStable}
use Rattle.iccma_tasks.specs.declared.task.Semantics.TheVariants.{Ideal, Stage}
use Rattle.iccma_tasks.specs.Tasks.{Asked, task_of}
use Rattle.oracle_face.specs.certificate_claims.specs.Acceptance.{Tests, no_claim}
use Rattle.oracle_face.specs.certificate_claims.specs.Claims.{claims, row_of, sets_of}
use Rattle.oracle_face.specs.certificate_claims.specs.Refutations.{Claim, axiom_clause}
use Rattle.oracle_face.specs.certificate_claims.specs.SetLiterals.{outside, differs, wider, attacked}
use Rattle.oracle_face.specs.declared.face.Pending.{Pending}
use Rattle.oracle_face.specs.declared.face.Pending.TheVariants.{Loop}
use Rattle.oracle_face.specs.Goals.{Refutes}
use Rattle.oracle_face.specs.Growing.{Making, HasRun}
use Rattle.oracle_face.specs.Logs.{OracleLog, LogStep, IsSameClause, by_axiom, clauses_of, is_loop, no_step, step_at}
use Rattle.edit_rules.specs.declared.query_fault.QueryFault.{QueryFault}
use Rattle.edit_rules.specs.Fitting.{Fits, IsFaultOf}

-- ---- what serves a query

-- the side clauses that the table of certificates has for a problem and a semantics, made from a set
abbrev pub sides_for : Framework → Problem → Semantics → List ℕ → List (List AtomLit)
sides_for f problem Preferred e = outside f e ∷ []
sides_for f AllExtensions SemiStable e = wider f e ∷ differs f e ∷ []
sides_for f problem SemiStable e = wider f e ∷ []
sides_for f AllExtensions Stage e = wider f e ∷ differs f e ∷ []
sides_for f problem Stage e = wider f e ∷ []
sides_for f problem Ideal e = outside f e ∷ attacked f e ∷ []
sides_for f AllExtensions Complete e = differs f e ∷ []
sides_for f AllExtensions Stable e = differs f e ∷ []
sides_for f problem semantics e = []

-- what the sets are that they are made from: conflict-free for a query by stage sets, else admissible
abbrev pub side_mode : Semantics → Atom
side_mode Stage = Cf
side_mode _ = Ad

-- the side clause is one of these, and made from an admissible set, or for a query by stage sets from a conflict-free one
pub record SideServes (f : Framework) (asked : Asked) (literals : List AtomLit) (set : List ℕ) : Type 0 where
  pub side : List AtomLit
  pub listed : Contains (sides_for f asked.task.problem asked.task.semantics set) side
  pub same : IsSameClause literals side
  pub has_mode : HoldsOf f set (side_mode asked.task.semantics)

-- the side clauses that may be made for a query
abbrev pub MadeFor : Framework → Asked → Making
MadeFor f asked literals set = SideServes f asked literals set

-- the check takes the clause with no hints that searches use
pub record IsTakenByNone (steps : List LogStep) (clause : List AtomLit) : Type 0 where
  pub none : (hints : List ℕ) → ((hint : ℕ) → Contains hints hint → (step_at steps hint).closing ≡ false)
      → Checks negated (clauses_of steps) clause hints (Ok (length hints)) → ⊥

-- each loop clause that was gained was taken by no hints when it came
pub record LoopsServe (old new : OracleLog) : Type 0 where
  pub each : (k : ℕ) (name : AxiomName) → length old.steps ≤ k → k < length new.steps
      → (slice_index_or new.steps k no_step).source ≡ by_axiom name → is_loop name ≡ true
      → IsTakenByNone (take k new.steps) (axiom_clause name)

-- no such hints take a loop clause in hand
abbrev pub LoopInHand : OracleLog → Option Pending → Type 0
LoopInHand log (Some (Loop name)) = IsTakenByNone log.steps (axiom_clause name)
LoopInHand log _ = Unit {0}

-- ---- the course of a query

-- the log before a query and behind it, the clause in hand when the budget was spent, and the budget before and after
pub record Course : Type 0 where
  pub old : OracleLog
  pub new : OracleLog
  pub pending : Option Pending
  pub before : Units
  pub after : Units

-- what was added serves the query, whatever it comes to: each unit was new and is counted, a halt has its cause, and of
-- steps that only ended a search there are at most two for each side clause and two more
pub record WorksFor (f : Framework) (asked : Asked) (course : Course) (halt : Option Halt) : Type 0 where
  pub run : HasRun (MadeFor f asked) (2 * length course.new.sides + 2) f course.old course.new course.pending
      course.before course.after halt
  pub loops : LoopsServe course.old course.new
  pub within : course.after.used ≤ course.after.limit

-- ---- what an answer rests on

-- a step of the log refutes the claim
pub record HasRefuting (f : Framework) (log : OracleLog) (claim : Claim) : Type 0 where
  pub number : ℕ
  pub refutes : Refutes f log claim number

-- the direct tests of the answer and of the certificate's sets pass, and steps of the log refute its claims
pub record IsShownBy (f : Framework) (asked : Asked) (answer : Answer) (sets : List (List ℕ))
    (log : OracleLog) : Type 0 where
  pub tests : Tests f asked (row_of f asked answer) (sets_of answer) sets
  pub refuted : (k : ℕ) → k < length (claims f (row_of f asked answer) sets)
      → HasRefuting f log (slice_index_or (claims f (row_of f asked answer) sets) k no_claim)

-- the query for one extension
abbrev pub some_asked : Semantics → Asked
some_asked semantics = record { task = task_of SomeExtension semantics; number = None }

-- no two sets of the list have the same members
abbrev pub AreDifferent : List (List ℕ) → Type 0
AreDifferent sets =
    (i j : ℕ) → i < j → j < length sets → HasSameMembers (slice_index_or sets i []) (slice_index_or sets j []) → ⊥

-- a task asks for all extensions, and these are more than so many different ones, each shown as an answer to the query
-- for one
pub record AreTooMany (f : Framework) (asked : Asked) (most : ℕ) (log : OracleLog) (sets : List (List ℕ)) : Type 0 where
  pub all : asked.task.problem ≡ AllExtensions
  pub more : most < length sets
  pub different : AreDifferent sets
  pub each : (e : List ℕ) → Contains sets e
      → IsShownBy f (some_asked asked.task.semantics) (Sets (e ∷ [])) [] log

-- ---- how it ends

-- the tasks that need no search, and so no step of the log: the grounded set is the one extension of its semantics, and
-- it is part of each complete set and one itself (Dung 1995, theorem 25)
abbrev pub is_by_grounded : Problem → Semantics → Bool
is_by_grounded Credulous Grounded = true
is_by_grounded Sceptical Grounded = true
is_by_grounded SomeExtension Grounded = true
is_by_grounded Sceptical Complete = true
is_by_grounded SomeExtension Complete = true
is_by_grounded problem semantics = false

-- the grounded set doesn't answer the task, so that a spent budget or a full log may stop its queries
abbrev pub MayStop : Asked → Type 0
MayStop asked = is_by_grounded asked.task.problem asked.task.semantics ≡ false

-- a fault; an answer with the sets of its certificate; that the budget was spent, at a number of units; these
-- extensions, which are more than may be listed; or that the log was full
pub data Ending : Type 0 where
  refused : QueryFault → Ending
  definite : Answer → List (List ℕ) → Ending
  unknown : ℕ → Ending
  too_many : List (List ℕ) → Ending
  log_full : Ending

-- a query may end so: it has that first fault, or else fits the framework, and what was added serves it; an answer is
-- shown by the log; a spent budget and a full log have their cause, and a loop clause in hand serves the query too; and
-- the extensions are more different ones than so many
abbrev pub IsEnd : Framework → Asked → ℕ → Course → Ending → Type 0
IsEnd f asked most course (refused fault) = IsFaultOf f asked fault
IsEnd f asked most course (definite answer sets) =
    Fits f asked × WorksFor f asked course None × IsShownBy f asked answer sets course.new
IsEnd f asked most course (unknown count) =
    Fits f asked × WorksFor f asked course (Some (Spent count)) × MayStop asked × LoopInHand course.new course.pending
IsEnd f asked most course (too_many sets) =
    Fits f asked × WorksFor f asked course None × AreTooMany f asked most course.new sets
IsEnd f asked most course log_full = Fits f asked × WorksFor f asked course (Some LogFull) × MayStop asked
