-- The text of a refutation, its faults, and what the check tells of it.
use Rattle.std.specs.Prelude.{◌≡◌, ◌⊎◌, ◌↔◌, Bool, ℕ, ◌-◌, ◌<◌, ◌≤◌, List, [], ◌∷◌, length, drop, Contains, slice_index_or}
use Rattle.std.specs.Prelude.{Result, Ok, Err, Option, None, Some, true}
use Rattle.std.specs.List.{AllZip}
use Rattle.num_text.specs.Cuts.{LineText, field_texts, lines_of}
use Rattle.num_text.specs.Number.{IsNumber}
use Rattle.plain_lits.specs.declared.lit.Lit.{Lit}
use Rattle.lrat_text.specs.declared.fault.LratCause.{LratCause}
use Rattle.lrat_text.specs.declared.fault.LratCause.TheVariants.{BadLine, BadNumber, OutOfRange, IdOrder}
use Rattle.lrat_text.specs.declared.fault.LratFault.{LratFault}
use Rattle.lrat_text.specs.declared.fault.LratFault.TheVariants.{At, Memory}
use Rattle.lrat_text.specs.declared.lrat_line.Part.{Part}
use Rattle.lrat_text.specs.declared.verdict.Verdict.{Verdict}
use Rattle.lrat_text.specs.Causes.{IsFirstLratCause}
use Rattle.lrat_text.specs.Checking.{StepLine, StepList, ComesTo, steps_of}
use Rattle.lrat_text.specs.CnfText.{Formula, IsCnfText}
use Rattle.lrat_text.specs.Lines.{lrat_kept}
use Rattle.lrat_text.specs.Numbers.{IsSigned, SpellsLit, HasNoNumber, HasNoSigned, is_zero, zeros, has_zero, before_zero, behind_zero, is_filled}

-- ---- a line

-- three fields or more, of which the last and one other are `0`
pub record HasForm (fields : List (List ℕ)) : Type 0 where
  pub long : 3 ≤ length fields
  pub closed : is_zero (slice_index_or fields (length fields - 1) []) ≡ true
  pub two : zeros fields ≡ 2

-- the id's field, the literals' up to the next `0`, and the hints' up to the one behind that
abbrev pub id_field : List (List ℕ) → List ℕ
id_field fields = slice_index_or fields 0 []

abbrev pub literal_fields : List (List ℕ) → List (List ℕ)
literal_fields fields = before_zero (drop 1 fields)

abbrev pub hint_fields : List (List ℕ) → List (List ℕ)
hint_fields fields = before_zero (behind_zero (drop 1 fields))

-- the fields are `id literals 0 hints 0`; variables are from 1 to the one number, and the id is above the other
pub record IsStepLine (vars last : ℕ) (fields : List (List ℕ)) (id : ℕ) (clause : List Lit) (hints : List ℕ)
    : Type 0 where
  pub form : HasForm fields
  pub id_is : IsNumber (id_field fields) id
  pub literals : AllZip (SpellsLit vars) (literal_fields fields) clause
  pub hints_are : AllZip IsNumber (hint_fields fields) hints
  pub above : last < id

-- some field is a literal whose variable is 0, or over this number
pub record HasOutsider (vars : ℕ) (fields : List (List ℕ)) : Type 0 where
  pub field : List ℕ
  pub listed : Contains fields field
  pub l : Lit
  pub signed : IsSigned field l
  pub outside : (l.var ≡ 0) ⊎ (vars < l.var)

-- the cause stands on the fields of a line
abbrev pub LineStands : ℕ → ℕ → List (List ℕ) → LratCause → Type 0
LineStands vars last fields BadLine = HasForm fields → ⊥
LineStands vars last fields BadNumber =
    ((n : ℕ) → IsNumber (id_field fields) n → ⊥)
    ⊎ (HasNoSigned (literal_fields fields) ⊎ HasNoNumber (hint_fields fields))
LineStands vars last fields OutOfRange = HasOutsider vars (literal_fields fields)
LineStands vars last fields IdOrder = (n : ℕ) × IsNumber (id_field fields) n × (n ≤ last)

-- a fault of the line of this number, with a cause of which P holds; or want of memory
abbrev pub FaultsAt : ℕ → (LratCause → Type 0) → LratFault → Type 0
FaultsAt number P (At line cause) = (line ≡ number) × P cause
FaultsAt number P Memory = Unit {0}

-- what is found of literals' fields: literals, or the first of their causes
abbrev pub LiteralsSay : ℕ → List (List ℕ) → List Lit → Option LratCause → Type 0
LiteralsSay vars fields literals None = AllZip (SpellsLit vars) fields literals
LiteralsSay vars fields literals (Some BadNumber) = HasNoSigned fields
LiteralsSay vars fields literals (Some OutOfRange) = (HasNoSigned fields → ⊥) × HasOutsider vars fields
LiteralsSay vars fields literals (Some _) = ⊥

-- what is found of hints' fields
abbrev pub HintsSay : List (List ℕ) → List ℕ → Option LratCause → Type 0
HintsSay fields hints None = AllZip IsNumber fields hints
HintsSay fields hints (Some BadNumber) = HasNoNumber fields
HintsSay fields hints (Some _) = ⊥

-- what was found of the fields up to the first `0`, or to the end; behind a `0` the others are left
pub record ReadsPart (Say : List (List ℕ) → Option LratCause → Type 0) (fields left : List (List ℕ)) (part : Part)
    : Type 0 where
  pub left_is : part.closed ≡ true → left ≡ behind_zero fields
  pub closed : part.closed ≡ has_zero fields
  pub filled : part.filled ≡ is_filled (before_zero fields)
  pub says : Say (before_zero fields) part.cause

-- fields behind an id: those up to the first `0`, those up to the next one, and whether others are left behind that
pub record AreParts (rest : List (List ℕ)) (literals hints : Part) (done : Bool) : Type 0 where
  pub literals_closed : has_zero rest ≡ true
  pub literals_filled : literals.filled ≡ is_filled (before_zero rest)
  pub hints_closed : hints.closed ≡ has_zero (behind_zero rest)
  pub hints_filled : hints.filled ≡ is_filled (before_zero (behind_zero rest))
  pub done_is : hints.closed ≡ true → (done ≡ true) ↔ (behind_zero (behind_zero rest) ≡ [])

-- ---- the text

-- the lines are these steps; variables are from 1 to the one number, and ids rise from above the other
abbrev pub AreSteps : ℕ → ℕ → List LineText → List StepLine → Type 0
AreSteps vars last [] steps = steps ≡ []
AreSteps vars last (line ∷ lines) [] = ⊥
AreSteps vars last (line ∷ lines) (step ∷ steps) =
    IsStepLine vars last (field_texts line.text) step.id step.clause step.hints × AreSteps vars step.id lines steps

-- the first line that is no step, and the cause that is told of it
abbrev pub IsFirstFault : ℕ → ℕ → List LineText → ℕ → LratCause → Type 0
IsFirstFault vars last [] number cause = ⊥
IsFirstFault vars last (line ∷ lines) number cause =
    ((step : StepLine) × IsStepLine vars last (field_texts line.text) step.id step.clause step.hints
    × IsFirstFault vars step.id lines number cause)
    ⊎ ((number ≡ line.number) × IsFirstLratCause (LineStands vars last (field_texts line.text)) cause)

-- the bytes are the text of these steps, in a refutation of the CNF
abbrev pub IsLratText : Formula → List ℕ → List StepLine → Type 0
IsLratText f bytes steps = AreSteps f.vars (length f.clauses) (lrat_kept (lines_of bytes)) steps

-- what the check of a refutation tells: what its steps come to, or its first fault
abbrev pub IsChecked : Formula → List ℕ → Result Verdict LratFault → Type 0
IsChecked f bytes (Ok verdict) =
    (steps : List StepLine) × IsLratText f bytes steps × ComesTo (steps_of f.clauses) steps verdict
IsChecked f bytes (Err (At line cause)) =
    IsFirstFault f.vars (length f.clauses) (lrat_kept (lines_of bytes)) line cause
IsChecked f bytes (Err Memory) = Unit {0}

-- the one text is a CNF, and the check of it with the other tells this
pub record IsToldOf (cnf lrat : List ℕ) (verdict : Verdict) : Type 0 where
  pub f : Formula
  pub read : IsCnfText cnf f
  pub checked : IsChecked f lrat (Ok verdict)

-- ---- the course of a check

-- from lines behind a last id to those that are left behind another one: whatever the lines that are left come to, all
-- these lines come to it
pub record GoesOn (vars : ℕ) (last : ℕ) (steps : StepList) (lines : List LineText) (new_last : ℕ) (new_steps : StepList)
    (left : List LineText) : Type 0 where
  pub good : (more : List StepLine) (verdict : Verdict) → AreSteps vars new_last left more
      → ComesTo new_steps more verdict
      → (all : List StepLine) × AreSteps vars last lines all × ComesTo steps all verdict
  pub bad : (line : ℕ) (cause : LratCause) → IsFirstFault vars new_last left line cause
      → IsFirstFault vars last lines line cause

-- the lines up to those that are left come to a verdict, whatever these are
pub record IsJudged (vars : ℕ) (last : ℕ) (steps : StepList) (lines : List LineText) (new_last : ℕ)
    (left : List LineText) (verdict : Verdict) : Type 0 where
  pub good : (more : List StepLine) → AreSteps vars new_last left more
      → (all : List StepLine) × AreSteps vars last lines all × ComesTo steps all verdict
  pub bad : (line : ℕ) (cause : LratCause) → IsFirstFault vars new_last left line cause
      → IsFirstFault vars last lines line cause

-- the fault, where it tells a line, is the first of these lines
abbrev pub IsFaultOf : ℕ → ℕ → List LineText → LratFault → Type 0
IsFaultOf vars last lines (At line cause) = IsFirstFault vars last lines line cause
IsFaultOf vars last lines Memory = Unit {0}

-- the lines are steps
abbrev pub AreSomeSteps : ℕ → ℕ → List LineText → Type 0
AreSomeSteps vars last lines = (steps : List StepLine) × AreSteps vars last lines steps
