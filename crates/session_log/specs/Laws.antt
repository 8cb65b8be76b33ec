-- Laws of a session's log.
use Rattle.std.specs.Prelude.{◌≡◌, ◌⊎◌, ℕ, ◌+◌, Bool, true, false, not, List, [], length, Contains, Option, Some, None}
use Rattle.semantics.specs.Frameworks.{Framework, IsNumbered}
use Rattle.meaning_atoms.specs.declared.atom.AtomLit.{AtomLit}
use Rattle.meaning_atoms.specs.declared.axiom.AxiomName.{AxiomName}
use Rattle.meaning_atoms.specs.Literals.{negated, AsksNothing}
use Rattle.oracle_face.specs.af_axioms.specs.Facts.{IsFactValue}
use Rattle.iccma_tasks.specs.declared.answer.Answer.{Answer}
use Rattle.iccma_tasks.specs.Tasks.{Asked}
use Rattle.oracle_face.specs.certificate_claims.specs.Rights.{IsExtension, IsRight}
use Rattle.oracle_face.specs.certificate_claims.specs.Refutations.{Claim, IsAxiomOf, axiom_clause}
use Rattle.oracle_face.specs.declared.entry.EntryName.{EntryName}
use Rattle.oracle_face.specs.Goals.{IsSide, RefutesGoals, DeniesSide, Refutes}
use Rattle.oracle_face.specs.Growing.{NoSide, OnlySide}
use Rattle.oracle_face.specs.Logs.{OracleLog, FactsAreFalse, IsLog, IsNew, IsNumberOf, Reaches, guarded, is_loop}
use Rattle.oracle_face.specs.Logs.{step_at, working}
use Rattle.oracle_face.specs.Needed.{IsNeeded}
use Rattle.session_log.specs.Ends.{AreTooMany, IsShownBy}
use Rattle.session_log.specs.Guards.{IsGuarded}
use Rattle.session_log.specs.Truth.{IsTrueOfWorlds, MayBeShared}
use Rattle.session_log.specs.Steps.{TakesAxiom, TakesSide, Derives, Spends, StaysGuarded}

-- a log with no step and no side clause is a guarded one
abbrev pub OpenedGuarded : Type 0
OpenedGuarded = (f : Framework) (log : OracleLog) → log.steps ≡ [] → log.sides ≡ [] → IsLog f log × IsGuarded log

-- a guarded log that takes an axiom is one still
abbrev pub AxiomsStay : Type 0
AxiomsStay = (f : Framework) (name : AxiomName) (clause : List AtomLit) (old new : OracleLog) → IsLog f old
    → IsGuarded old → IsAxiomOf f name → TakesAxiom name clause old new → StaysGuarded NoSide f old new

-- a guarded log that takes a side clause is one still
abbrev pub SidesStay : Type 0
SidesStay = (f : Framework) (literals : List AtomLit) (set : List ℕ) (clause : List AtomLit) (old new : OracleLog)
    → IsLog f old → IsGuarded old → TakesSide literals set clause old new
    → StaysGuarded (OnlySide literals set) f old new

-- a guarded log that a clause is derived in is one still
abbrev pub DerivedStay : Type 0
DerivedStay = (f : Framework) (clause : List AtomLit) (hints : List ℕ) (imported : Option EntryName) (closing : Bool)
    (old new : OracleLog) → IsLog f old → IsGuarded old → Derives clause hints imported closing old new
    → StaysGuarded NoSide f old new

-- an axiom that isn't a loop clause spends nothing
abbrev pub AxiomsSpendNothing : Type 0
AxiomsSpendNothing = (f : Framework) (name : AxiomName) (clause : List AtomLit) (old new : OracleLog)
    → is_loop name ≡ false → TakesAxiom name clause old new → Spends f old new 0 0

-- no axiom that a search needs is a loop clause
abbrev pub NeededNoLoop : Type 0
NeededNoLoop = (f : Framework) (name : AxiomName) → IsNeeded f name → is_loop name ≡ false

-- a loop clause that is new, and says no fact but a false one, spends a unit
abbrev pub LoopsSpendOne : Type 0
LoopsSpendOne = (f : Framework) (name : AxiomName) (clause : List AtomLit) (old new : OracleLog)
    → is_loop name ≡ true → IsNew (working old.steps) (axiom_clause name) → FactsAreFalse f (axiom_clause name)
    → TakesAxiom name clause old new → Spends f old new 1 0

-- a side clause spends a unit
abbrev pub SidesSpendOne : Type 0
SidesSpendOne = (f : Framework) (literals : List AtomLit) (set : List ℕ) (clause : List AtomLit) (old new : OracleLog)
    → IsLog f old → IsGuarded old → TakesSide literals set clause old new → Spends f old new 1 0

-- a clause of one's own that is new, and says no fact but a false one, spends a unit
abbrev pub LearnedSpendOne : Type 0
LearnedSpendOne = (f : Framework) (clause : List AtomLit) (hints : List ℕ) (old new : OracleLog)
    → IsNew (working old.steps) clause → FactsAreFalse f clause → Derives clause hints None false old new
    → Spends f old new 1 0

-- a step that only ends a search spends no unit, and is counted as such
abbrev pub ClosingSpendsNone : Type 0
ClosingSpendsNone = (f : Framework) (clause : List AtomLit) (hints : List ℕ) (imported : Option EntryName)
    (old new : OracleLog) → Derives clause hints imported true old new → Spends f old new 0 1

-- an imported clause spends nothing
abbrev pub ImportedSpendNothing : Type 0
ImportedSpendNothing = (f : Framework) (clause : List AtomLit) (hints : List ℕ) (name : EntryName)
    (old new : OracleLog) → Derives clause hints (Some name) false old new → Spends f old new 0 0

-- each step is true in every world beside the log's side clauses
abbrev pub StepsAreTrue : Type 0
StepsAreTrue = (f : Framework) (log : OracleLog) (number : ℕ) → IsLog f log → IsNumberOf log.steps number
    → IsTrueOfWorlds log number

-- a step of a guarded log that asks for no side clause may be handed to others
abbrev pub PlainStepsMayBeShared : Type 0
PlainStepsMayBeShared = (f : Framework) (log : OracleLog) (number : ℕ) → IsLog f log → IsGuarded log
    → IsNumberOf log.steps number → AsksNothing (step_at log.steps number).clause → MayBeShared log number

-- what a step reaches besides itself was used by searches: no such step only ended one
abbrev pub ReachedAreUsed : Type 0
ReachedAreUsed = (f : Framework) (log : OracleLog) (number reached : ℕ) → IsLog f log → IsNumberOf log.steps number
    → Reaches log.steps number reached → (number ≡ reached) ⊎ ((step_at log.steps reached).closing ≡ false)

-- a further side clause that an oracle may be asked to keep is new to what searches use, whatever its literals
abbrev pub SidesAreNew : Type 0
SidesAreNew = (f : Framework) (log : OracleLog) (side : List AtomLit) → IsLog f log → IsGuarded log → IsSide side
    → IsNew (working log.steps) (guarded (length log.sides + 1) side)

-- a step refutes goals where each of its literals is false by the facts or by a goal: what it reaches needs no look
abbrev pub ClosedRefutesGoals : Type 0
ClosedRefutesGoals = (f : Framework) (log : OracleLog) (goals : List AtomLit) (number : ℕ) → IsGuarded log
    → IsNumberOf log.steps number
    → ((l : AtomLit) → Contains (step_at log.steps number).clause l
    → IsFactValue f l.atom (not l.positive) ⊎ Contains goals (negated l))
    → RefutesGoals f log goals number

-- the same of a claim, whose goals ask for no side clause
abbrev pub ClosedRefutesClaim : Type 0
ClosedRefutesClaim = (f : Framework) (log : OracleLog) (claim : Claim) (number : ℕ) → IsGuarded log
    → AsksNothing claim.goals → IsNumberOf log.steps number
    → ((l : AtomLit) → Contains (step_at log.steps number).clause l
    → IsFactValue f l.atom (not l.positive)
    ⊎ (Contains claim.goals (negated l) ⊎ DeniesSide log.sides claim l.atom l.positive))
    → Refutes f log claim number

-- an answer that the log shows is right
abbrev pub ShownAnswersAreRight : Type 0
ShownAnswersAreRight = (f : Framework) (asked : Asked) (answer : Answer) (sets : List (List ℕ)) (log : OracleLog)
    → IsNumbered f → IsLog f log → IsShownBy f asked answer sets log → IsRight f asked answer

-- the sets that a log shows where there are too many are extensions
abbrev pub ShownSetsAreExtensions : Type 0
ShownSetsAreExtensions = (f : Framework) (asked : Asked) (most : ℕ) (log : OracleLog) (sets : List (List ℕ))
    → IsNumbered f → IsLog f log → AreTooMany f asked most log sets
    → (e : List ℕ) → Contains sets e → IsExtension f asked.task.semantics e
