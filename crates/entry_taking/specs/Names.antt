-- The steps of a log by their names.
use Rattle.std.specs.Prelude.{◌≡◌, ℕ, ◌+◌, ◌<◌, ◌≤◌, List, length, Option, Some, None}
use Rattle.indexmap.specs.IndexMap.{get}
use Rattle.oracle_face.specs.Logs.{LogStep, by_axiom, step_at}
use Rattle.oracle_face.specs.declared.step_source.StepSource.{StepSource}
use Rattle.oracle_face.specs.declared.step_source.StepSource.TheVariants.{Axiom as OfAxiom, Entry as OfEntry}
use Rattle.entry_taking.specs.declared.names.StepName.{StepName}
use Rattle.entry_taking.specs.declared.names.StepName.TheVariants.{Axiom, Entry}
use Rattle.entry_taking.specs.declared.names.StepNames.{StepNames}
use Rattle.entry_taking.specs.contracts.names.StepNamePartialEq.TheImpl.{eq-value as name_eq}

-- the step is the axiom's, or was taken from the entry
abbrev pub IsCalledSo : StepName → LogStep → Type 0
IsCalledSo (Axiom name) step = step.source ≡ by_axiom name
IsCalledSo (Entry session number) step = step.imported ≡ Some (record { session = session; step = number })

-- the first of so many steps that is called so
pub record IsFirstCalled (steps : List LogStep) (seen : ℕ) (name : StepName) (number : ℕ) : Type 0 where
  pub low : 0 < number
  pub high : number ≤ seen
  pub called : IsCalledSo name (step_at steps number)
  pub first : (other : ℕ) → 0 < other → other ≤ seen → IsCalledSo name (step_at steps other) → number ≤ other

-- or that none is
abbrev pub IsFirstOf : List LogStep → ℕ → StepName → Option ℕ → Type 0
IsFirstOf steps seen name (Some number) = IsFirstCalled steps seen name number
IsFirstOf steps seen name None = (number : ℕ) → 0 < number → number ≤ seen → IsCalledSo name (step_at steps number) → ⊥

-- what a step from there is called by, if it has a name
abbrev pub name_of : StepSource → Option StepName
name_of (OfAxiom name) = Some (Axiom name)
name_of (OfEntry name) = Some (Entry name.session name.step)
name_of _ = None

-- what is told of a name
abbrev pub told_of : StepNames → StepName → Option ℕ
told_of names name = get (name_eq).it names.steps name

-- of the first steps of a log each name is told with the first step that is called so
pub record AreNamed (names : StepNames) (steps : List LogStep) : Type 0 where
  pub within : names.seen ≤ length steps
  pub each : (name : StepName) → IsFirstOf steps names.seen name (told_of names name)

-- a name is told with a step where it wasn't told before
pub record IsPut (by : Option StepName) (step : ℕ) (old new : StepNames) : Type 0 where
  pub seen : new.seen ≡ old.seen
  pub kept : (name : StepName) (number : ℕ) → told_of old name ≡ Some number → told_of new name ≡ Some number
  pub gained : (name : StepName) → told_of old name ≡ None → by ≡ Some name → told_of new name ≡ Some step
  pub others : (name : StepName) → told_of old name ≡ None → (by ≡ Some name → ⊥) → told_of new name ≡ None

-- one step more was looked at: its name is told where it wasn't told before
pub record IsNoted (origin : StepSource) (step : ℕ) (old new : StepNames) : Type 0 where
  pub seen : new.seen ≡ old.seen + 1
  pub kept : (name : StepName) (number : ℕ) → told_of old name ≡ Some number → told_of new name ≡ Some number
  pub gained : (name : StepName) → told_of old name ≡ None → name_of origin ≡ Some name → told_of new name ≡ Some step
  pub others : (name : StepName) → told_of old name ≡ None → (name_of origin ≡ Some name → ⊥)
      → told_of new name ≡ None

-- each name is told as before
pub record IsSameNames (old new : StepNames) : Type 0 where
  pub seen : new.seen ≡ old.seen
  pub told : (name : StepName) → told_of new name ≡ told_of old name
