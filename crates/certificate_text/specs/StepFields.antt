-- What the fields of a step say, and what may be wrong with them.
use Rattle.std.specs.Prelude.{◌≡◌, ◌≢◌, ℕ, ◌≤◌, Bool, List, [], ◌∷◌, length, Contains, Option, None, Some, codes, nat_eq, if◌then◌else◌}
use Rattle.std.specs.List.{AllZip}
use Rattle.std.specs.Cmp.Lexicographic.{pointwise}
use Rattle.num_text.specs.Number.{IsNumber}
use Rattle.meaning_atoms.specs.declared.atom.AtomLit.{AtomLit}
use Rattle.meaning_atoms.specs.declared.axiom.AxiomName.{AxiomName}
use Rattle.meaning_atoms.specs.AtomText.{IsLitText}
use Rattle.meaning_atoms.specs.AxiomText.{IsAxiomFields}
use Rattle.certificate_claims.specs.declared.certificate.Step.{Step}
use Rattle.certificate_claims.specs.declared.certificate.Step.TheVariants.{Axiom, Side, Derived}
use Rattle.certificate_text.specs.declared.fault.CertCause.{CertCause}
use Rattle.certificate_text.specs.declared.fault.CertCause.TheVariants.{BadLine, BadNumber, BadAtom, BadAxiom}
use Rattle.certificate_text.specs.declared.word.Word.{Word}
use Rattle.certificate_text.specs.declared.word.Word.TheVariants.{Axiom as AxiomWord, Side as SideWord, Derived as DerivedWord}

-- the field spells n, which is the number of a step or a side clause, counted from 1
pub record SpellsOrdinal (field : List ℕ) (n : ℕ) : Type 0 where
  pub number : IsNumber field n
  pub from_one : 1 ≤ n

-- some field spells no such number
pub record HasBadOrdinal (fields : List (List ℕ)) : Type 0 where
  pub field : List ℕ
  pub listed : Contains fields field
  pub bad : (n : ℕ) → SpellsOrdinal field n → ⊥

-- some field spells no number
pub record HasBadNumber (fields : List (List ℕ)) : Type 0 where
  pub field : List ℕ
  pub listed : Contains fields field
  pub bad : (n : ℕ) → IsNumber field n → ⊥

-- some field is the text of no literal
pub record HasBadLiteral (fields : List (List ℕ)) : Type 0 where
  pub field : List ℕ
  pub listed : Contains fields field
  pub bad : (l : AtomLit) → IsLitText field l → ⊥

-- the closing zero of the literals
abbrev pub is_zero : List ℕ → Bool
is_zero field = pointwise nat_eq field (codes "0")

-- fields in two parts
pub record Parts : Type 0 where
  pub literals : List (List ℕ)
  pub hints : List (List ℕ)

abbrev pub put_before : List ℕ → Option Parts → Option Parts
put_before field None = None
put_before field (Some parts) = Some (record { literals = field ∷ parts.literals; hints = parts.hints })

-- the fields before the first zero, and those behind it
unfoldable pub parts_of : List (List ℕ) → Option Parts
parts_of [] = None
parts_of (field ∷ fields) =
    if is_zero field then Some (record { literals = []; hints = fields }) else put_before field (parts_of fields)

-- the fields are literals, a zero, and hints
pub record IsDerivedOf (fields : List (List ℕ)) (literals : List AtomLit) (hints : List ℕ) : Type 0 where
  pub parts : Parts
  pub cut : parts_of fields ≡ Some parts
  pub literals_are : AllZip IsLitText parts.literals literals
  pub hints_are : AllZip SpellsOrdinal parts.hints hints

-- behind this word, the fields say this step
abbrev pub IsStepOf : Word → List (List ℕ) → Step → Type 0
IsStepOf AxiomWord fields (Axiom which) = IsAxiomFields fields which
IsStepOf SideWord fields (Side n) = (field : List ℕ) × (fields ≡ field ∷ []) × SpellsOrdinal field n
IsStepOf DerivedWord fields (Derived literals hints) = IsDerivedOf fields literals hints
IsStepOf _ _ _ = ⊥

-- ---- what may be wrong

abbrev pub AxiomStands : List (List ℕ) → CertCause → Type 0
AxiomStands fields BadLine = fields ≡ []
AxiomStands fields BadAxiom = (fields ≢ []) × ((which : AxiomName) → IsAxiomFields fields which → ⊥)
AxiomStands fields _ = ⊥

abbrev pub SideStands : List (List ℕ) → CertCause → Type 0
SideStands fields BadLine = length fields ≢ 1
SideStands fields BadNumber = (field : List ℕ) × (fields ≡ field ∷ []) × ((n : ℕ) → SpellsOrdinal field n → ⊥)
SideStands fields _ = ⊥

-- the hints are looked at before the literals
abbrev pub DerivedStands : List (List ℕ) → CertCause → Type 0
DerivedStands fields BadLine = parts_of fields ≡ None
DerivedStands fields BadNumber = (parts : Parts) × (parts_of fields ≡ Some parts) × HasBadOrdinal parts.hints
DerivedStands fields BadAtom = (parts : Parts) × (hints : List ℕ) × (parts_of fields ≡ Some parts)
    × AllZip SpellsOrdinal parts.hints hints × HasBadLiteral parts.literals
DerivedStands fields _ = ⊥

-- the cause stands at a line that begins with this word, where a step is open
abbrev pub StepStands : Word → List (List ℕ) → CertCause → Type 0
StepStands AxiomWord fields cause = AxiomStands fields cause
StepStands SideWord fields cause = SideStands fields cause
StepStands DerivedWord fields cause = DerivedStands fields cause
StepStands _ fields cause = cause ≡ BadLine
