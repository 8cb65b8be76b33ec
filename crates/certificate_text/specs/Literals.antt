-- The state of a proof: the literals of a derived step, as they are read one by one.
use Rattle.std.specs.Prelude.{◌≡◌, List, [], ◌∷◌, ◌++◌, ℕ, Bool, true, false, Option, None, Some}
use Rattle.std.specs.List.{AllZip}
use Rattle.meaning_atoms.specs.declared.atom.AtomLit.{AtomLit}
use Rattle.meaning_atoms.specs.AtomText.{IsLitText}
use Rattle.certificate_text.specs.declared.step.Literals.{Literals}
use Rattle.certificate_text.specs.declared.step.Literals.TheVariants.{Unclosed, Unreadable, Read}
use Rattle.certificate_text.specs.StepFields.{HasBadLiteral, Parts, parts_of}

abbrev pub parts : List (List ℕ) → List (List ℕ) → Parts
parts literals hints = record { literals = literals; hints = hints }

-- what was found in the fields, of which these are left behind the closing zero
abbrev pub HasLiterals : List (List ℕ) → List (List ℕ) → Literals → Type 0
HasLiterals fields left Unclosed = parts_of fields ≡ None
HasLiterals fields left Unreadable =
    (front : List (List ℕ)) × (parts_of fields ≡ Some (parts front left)) × HasBadLiteral front
HasLiterals fields left (Read literals) =
    (front : List (List ℕ)) × (parts_of fields ≡ Some (parts front left)) × AllZip IsLitText front literals

-- the literals so far, where each field said one
abbrev pub found_in : Bool → List AtomLit → Option (List AtomLit)
found_in true literals = Some literals
found_in false literals = None

-- the literals so far, or none where some field said none, go on by the field to these
abbrev pub GoesOn : Option (List AtomLit) → List ℕ → Option (List AtomLit) → Type 0
GoesOn None field after = after ≡ None
GoesOn (Some literals) field None = (l : AtomLit) → IsLitText field l → ⊥
GoesOn (Some literals) field (Some more) = (l : AtomLit) × IsLitText field l × (more ≡ literals ++ l ∷ [])

-- the result of literals that were closed
abbrev pub closed_view : Option (List AtomLit) → Literals
closed_view None = Unreadable
closed_view (Some literals) = Read literals
