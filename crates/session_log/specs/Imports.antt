-- When an entry may be taken into the log of a session, and what the log then gains.
use Rattle.std.specs.Prelude.{◌≡◌, ◌≢◌, ◌⊎◌, ℕ, ◌<◌, ◌≤◌, false, List, length, slice_index_or, take, Option}
use Rattle.std.specs.Prelude.{Some, None, Ok}
use Rattle.plain_lits.specs.HintCheck.{Checks}
use Rattle.semantics.specs.Frameworks.{Framework}
use Rattle.meaning_atoms.specs.declared.atom.AtomLit.{AtomLit}
use Rattle.meaning_atoms.specs.declared.axiom.AxiomName.{AxiomName}
use Rattle.meaning_atoms.specs.Literals.{negated, AsksNothing}
use Rattle.certificate_claims.specs.Refutations.{IsAxiomOf, axiom_clause}
use Rattle.oracle_face.specs.declared.entry.Entry.{Entry}
use Rattle.oracle_face.specs.declared.entry.EntryName.{EntryName}
use Rattle.oracle_face.specs.declared.entry.EntryOrigin.{EntryOrigin}
use Rattle.oracle_face.specs.declared.entry.EntryOrigin.TheVariants.{Axiom as OfAxiom, Hints}
use Rattle.oracle_face.specs.declared.entry.HintName.{HintName}
use Rattle.oracle_face.specs.declared.entry.HintName.TheVariants.{Axiom, Entry as OfEntry}
use Rattle.oracle_face.specs.Logs.{OracleLog, LogStep, Source, IsNumberOf, IsSameClause, by_axiom, clauses_of, is_loop}
use Rattle.oracle_face.specs.Logs.{step_at}
use Rattle.session_log.specs.Steps.{GainsStep, derived_step}

-- ---- what names stand for

-- of two sessions' entries: the step was taken in under the other one's name, or it is one's own by its number
abbrev pub IsOfEntry : ℕ → EntryName → ℕ → LogStep → Type 0
IsOfEntry own name number step =
    ((name.session ≢ own) × (step.imported ≡ Some name))
    ⊎ ((name.session ≡ own) × (name.step ≡ number) × (step.imported ≡ None))

-- the step of this number is the axiom's, or the entry's, in the log of the session of the number `own`
abbrev pub IsCalled : ℕ → HintName → ℕ → LogStep → Type 0
IsCalled own (Axiom name) number step = step.source ≡ by_axiom name
IsCalled own (OfEntry name) number step = IsOfEntry own name number step

-- the name under which a step's clause is handed on: its axiom's, its entry's, or that of an entry of one's own
abbrev pub name_by_source : ℕ → ℕ → Source → HintName
name_by_source s number (by_axiom name) = Axiom name
name_by_source s number source = OfEntry (record { session = s; step = number })

abbrev pub name_in_log : ℕ → ℕ → Option EntryName → Source → HintName
name_in_log s number None source = name_by_source s number source
name_in_log s number (Some name) source = OfEntry name

abbrev pub name_of_step : ℕ → List LogStep → ℕ → HintName
name_of_step s steps number = name_in_log s number (step_at steps number).imported (step_at steps number).source

-- the name stands for the first step that is called so, where that step may be an entry or follow from entries: it
-- didn't only end a search, and asks for no side clause
pub record StandsFor (own : ℕ) (steps : List LogStep) (name : HintName) (number : ℕ) : Type 0 where
  pub named : IsNumberOf steps number
  pub called : IsCalled own name number (step_at steps number)
  pub first : (other : ℕ) → IsNumberOf steps other → IsCalled own name other (step_at steps other) → number ≤ other
  pub kept : (step_at steps number).closing ≡ false
  pub plain : AsksNothing (step_at steps number).clause

-- names stand for steps, one for one
pub record StandForSteps (own : ℕ) (steps : List LogStep) (names : List HintName) (hints : List ℕ) : Type 0 where
  pub long : length hints ≡ length names
  pub each : (k : ℕ) (d : HintName) → k < length names
      → StandsFor own steps (slice_index_or names k d) (slice_index_or hints k 0)

-- ---- when an entry may be taken in

-- a clause follows by names: they stand for steps by which, in this order, the hint check takes it; it may do so before
-- it looks at the last of them
pub record FollowsByNames (own : ℕ) (steps : List LogStep) (clause : List AtomLit) (names : List HintName) : Type 0
  where
    pub hints : List ℕ
    pub stand : StandForSteps own steps names hints
    pub used : ℕ
    pub checks : Checks negated (clauses_of steps) clause hints (Ok used)

-- a clause is what its origin says: that of an axiom of the framework's kind that isn't in the log, or one that follows;
-- a loop clause comes only where a model calls for it
abbrev pub IsShownHere : Framework → ℕ → List LogStep → List AtomLit → EntryOrigin → Type 0
IsShownHere f own steps clause (OfAxiom name) =
    IsAxiomOf f name × (is_loop name ≡ false) × IsSameClause clause (axiom_clause name)
    × ((number : ℕ) → IsNumberOf steps number → (step_at steps number).source ≢ by_axiom name)
IsShownHere f own steps clause (Hints names) = FollowsByNames own steps clause names

-- an entry may be taken into a log that has room: it is another session's, no step was taken from it yet, and its clause
-- is what its origin says
pub record MayImport (f : Framework) (own : ℕ) (log : OracleLog) (entry : Entry) : Type 0 where
  pub room : length log.steps < log.limit
  pub other : entry.name.session ≢ own
  pub absent : (number : ℕ) → IsNumberOf log.steps number → (step_at log.steps number).imported ≢ Some entry.name
  pub shown : IsShownHere f own log.steps entry.clause entry.origin

-- ---- what a log gains

-- the steps are those that the first names of the origin stand for, one for one and in this order
abbrev pub AreHintsOf : ℕ → List LogStep → EntryOrigin → List ℕ → Type 0
AreHintsOf own steps (OfAxiom name) hints = ⊥
AreHintsOf own steps (Hints names) hints = StandForSteps own steps (take (length hints) names) hints

-- the entry's clause comes with the steps of its first names, by which the check takes it, looking at each of them; the
-- step keeps these and no others, is in use, and is marked as taken from the entry
pub record TakesEntry (own : ℕ) (entry : Entry) (old new : OracleLog) : Type 0 where
  pub clause : List AtomLit
  pub hints : List ℕ
  pub same : IsSameClause clause entry.clause
  pub checks : Checks negated (clauses_of old.steps) clause hints (Ok (length hints))
  pub named : AreHintsOf own old.steps entry.origin hints
  pub gains : GainsStep (derived_step clause hints (Some entry.name) false) old.sides old new
