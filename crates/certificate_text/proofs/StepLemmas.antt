-- What is found of the fields of a step.
use Rattle.std.proofs.Common.{◌≡◌, ℕ, ◌≤◌, List, [], ◌∷◌, drop, get_or, sym, ap, subst, ◌∙◌, arith}
use Rattle.std.specs.Prelude.{Option, None, Some, IfSome, IfNone}
use Rattle.std.specs.List.{AllZip}
use Rattle.meaning_atoms.specs.declared.atom.AtomLit.{AtomLit}
use Rattle.meaning_atoms.specs.AtomText.{IsLitText}
use Rattle.certificate_text.specs.declared.fault.CertCause.TheVariants.{BadNumber, BadAtom, BadAxiom}
use Rattle.certificate_text.specs.declared.step.Literals.{Literals}
use Rattle.certificate_text.specs.declared.step.Literals.TheVariants.{Unreadable, Read}
use Rattle.certificate_text.specs.Literals.{HasLiterals, parts}
use Rattle.num_text.specs.Number.{IsNumber}
use Rattle.meaning_atoms.specs.declared.axiom.AxiomName.{AxiomName}
use Rattle.meaning_atoms.specs.AxiomText.{IsAxiomFields, IsAxiomOf, axiom_arguments}
use Rattle.meaning_atoms.proofs.OneReading.{one_list}
use Rattle.certificate_text.specs.StepFields.{AxiomStands, DerivedStands, HasBadNumber, HasBadOrdinal, SpellsOrdinal}
use Rattle.certificate_text.proofs.Zips.{zip_partner}

-- ---- axioms

pub axiom_read : (name : List ℕ) (fields : List (List ℕ)) (numbers : List ℕ) (which : AxiomName)
    → AllZip IsNumber fields numbers → IsAxiomOf name numbers which → IsAxiomFields (name ∷ fields) which
axiom_read name fields numbers which all is = record {
  numbers = fields;
  fields_are = ap (λ n. n ∷ fields) (sym is.named.named);
  spelled = subst (AllZip IsNumber fields) (sym is.named.numbered) all;
  within = is.within;
}

pub axiom_told : (name : List ℕ) (fields : List (List ℕ)) (numbers : List ℕ) (which : AxiomName)
    → AllZip IsNumber fields numbers → IsAxiomFields (name ∷ fields) which → IsAxiomOf name numbers which
axiom_told name fields numbers which all is =
    let rest : fields ≡ is.numbers = ap (λ fs. drop 1 fs) is.fields_are in
    record {
      named = record {
        named = sym (ap (λ fs. get_or fs 0 []) is.fields_are);
        numbered = one_list fields (axiom_arguments which) numbers
            (subst (λ fs. AllZip IsNumber fs (axiom_arguments which)) (sym rest) is.spelled)
            all;
      };
      within = is.within;
    }

pub axiom_bad : (name : List ℕ) (fields : List (List ℕ)) (which : AxiomName) → HasBadNumber fields
    → IsAxiomFields (name ∷ fields) which → ⊥
axiom_bad name fields which bad is =
    let rest : is.numbers ≡ fields = ap (λ fs. drop 1 fs) (sym is.fields_are) in
    let all : AllZip IsNumber fields (axiom_arguments which)
    = subst (λ fs. AllZip IsNumber fs (axiom_arguments which)) rest is.spelled in
    let found = zip_partner IsNumber fields (axiom_arguments which) bad.field all bad.listed in
    bad.bad found.0 found.1

pub axiom_found : (name : List ℕ) (fields : List (List ℕ)) (spelled : Option (List ℕ)) (numbers numbers' : List ℕ)
    (found : Option AxiomName) → IfSome spelled (AllZip IsNumber fields) → spelled ≡ Some numbers → numbers' ≡ numbers
    → IfSome found (IsAxiomOf name numbers') → IfSome found (IsAxiomFields (name ∷ fields))
axiom_found name fields spelled numbers numbers' None all is same named = tt
axiom_found name fields spelled numbers numbers' (Some which) all is same named =
    axiom_read name fields numbers which (subst (λ s. IfSome s (AllZip IsNumber fields)) is all)
    (subst (λ ns. IsAxiomOf name ns which) same named)

pub axiom_unfound : (name : List ℕ) (fields : List (List ℕ)) (spelled : Option (List ℕ)) (numbers numbers' : List ℕ)
    (found : Option AxiomName) → IfSome spelled (AllZip IsNumber fields) → spelled ≡ Some numbers → numbers' ≡ numbers
    → ((which : AxiomName) → IsAxiomOf name numbers' which → found ≡ Some which)
    → IfNone found ((which : AxiomName) → IsAxiomFields (name ∷ fields) which → ⊥)
axiom_unfound name fields spelled numbers numbers' None all is same told = λ which fits.
    let found = told which (subst (λ ns. IsAxiomOf name ns which) (sym same)
    (axiom_told name fields numbers which (subst (λ s. IfSome s (AllZip IsNumber fields)) is all) fits)) in
    absurd (cc found)
axiom_unfound name fields spelled numbers numbers' (Some which) all is same told = tt

pub axiom_stands : (fields : List (List ℕ)) (name : List ℕ) (more : List (List ℕ)) (found : Option AxiomName)
    → fields ≡ name ∷ more → IfNone found ((which : AxiomName) → IsAxiomFields (name ∷ more) which → ⊥) → found ≡ None
    → AxiomStands fields BadAxiom
axiom_stands fields name more found cut none is = (
  λ empty. let e : name ∷ more ≡ [] = sym cut ∙ empty in absurd (cc e),
  subst (λ fs. (which : AxiomName) → IsAxiomFields fs which → ⊥) (sym cut)
      (subst (λ o. IfNone o ((which : AxiomName) → IsAxiomFields (name ∷ more) which → ⊥)) is none),
)

-- ---- derived steps

pub unreadable_stands : (fields left : List (List ℕ)) (found : Literals) (spelled : Option (List ℕ)) (hints : List ℕ)
    → HasLiterals fields left found → found ≡ Unreadable → IfSome spelled (AllZip SpellsOrdinal left)
    → spelled ≡ Some hints → DerivedStands fields BadAtom
unreadable_stands fields left found spelled hints has is all some_hints =
    let at : HasLiterals fields left Unreadable = subst (HasLiterals fields left) is has in (
      parts at.0 left,
      hints,
      at.1,
      subst (λ s. IfSome s (AllZip SpellsOrdinal left)) some_hints all,
      at.2,
    )

pub unreadable_hints : (fields left : List (List ℕ)) (found : Literals) (spelled : Option (List ℕ))
    → HasLiterals fields left found → found ≡ Unreadable → IfNone spelled (HasBadOrdinal left)
    → spelled ≡ None → DerivedStands fields BadNumber
unreadable_hints fields left found spelled has is bad none =
    let at : HasLiterals fields left Unreadable = subst (HasLiterals fields left) is has in
    (parts at.0 left, at.1, subst (λ s. IfNone s (HasBadOrdinal left)) none bad)

pub read_hints : (fields left : List (List ℕ)) (found : Literals) (literals : List AtomLit) (spelled : Option (List ℕ))
    → HasLiterals fields left found → found ≡ Read literals → IfNone spelled (HasBadOrdinal left)
    → spelled ≡ None → DerivedStands fields BadNumber
read_hints fields left found literals spelled has is bad none =
    let at : HasLiterals fields left (Read literals) = subst (HasLiterals fields left) is has in
    (parts at.0 left, at.1, subst (λ s. IfNone s (HasBadOrdinal left)) none bad)

-- ---- literals

pub not_read : (bytes : List ℕ) (found : Option AtomLit) → found ≡ None
    → ((l : AtomLit) → IsLitText bytes l → found ≡ Some l) → (l : AtomLit) → IsLitText bytes l → ⊥
not_read bytes found none told l is = let e = told l is in absurd (cc (none, e))
