-- A text has one outcome at most.
use Rattle.std.proofs.Common.{◌≡◌, ◌≢◌, ◌⊎◌, inl, inr, ⊎_elim, ℕ, List, [], ◌∷◌, ◌++◌, length, get_or, refl, sym, ap, subst, ◌∙◌}
use Rattle.std.specs.Prelude.{None, Some, Err}
use Rattle.std.specs.List.{AllZip}
use Rattle.std.specs.List.Sorted.{IsStrictlyIncreasing}
use Rattle.num_text.specs.Cuts.{LineText, field_texts}
use Rattle.num_text.specs.Lines.{kept_lines}
use Rattle.meaning_atoms.specs.declared.atom.AtomLit.{AtomLit}
use Rattle.meaning_atoms.specs.AtomText.{IsLitText}
use Rattle.meaning_atoms.proofs.OneReading.{one_axiom, one_literal}
use Rattle.iccma_tasks.specs.AnswerText.{AreRisingArguments, HasBadNumber, HasFallingNumbers, behind_first}
use Rattle.iccma_tasks.proofs.Reading.{AreArguments-unique}
use Rattle.certificate_claims.specs.declared.certificate.Step.{Step}
use Rattle.certificate_claims.specs.declared.certificate.Step.TheVariants.{Axiom, Side, Derived}
use Rattle.certificate_claims.specs.declared.certificate.Refutation.{Refutation}
use Rattle.certificate_text.specs.declared.draft.Draft.{Draft}
use Rattle.certificate_text.specs.declared.draft.Draft.TheVariants.{Nothing, SetsRead, StepsRead, AllRead}
use Rattle.certificate_text.specs.declared.fault.CertCause.{CertCause}
use Rattle.certificate_text.specs.declared.fault.CertCause.TheVariants.{BadLine, BadNumber, NotRising, BadAtom, BadAxiom}
use Rattle.certificate_text.specs.declared.fault.CertFault.TheVariants.{At}
use Rattle.certificate_text.specs.declared.word.Word.{Word}
use Rattle.certificate_text.specs.declared.word.Word.TheVariants.{Header as HeaderWord, Set as SetWord, Refutation as RefutationWord, Axiom as AxiomWord, Side as SideWord, Derived as DerivedWord, End as EndWord, Other as OtherWord}
use Rattle.certificate_text.specs.StepFields.{AxiomStands, DerivedStands, HasBadLiteral, HasBadOrdinal, IsDerivedOf, IsStepOf, Parts, SideStands, SpellsOrdinal, parts_of}
use Rattle.certificate_text.specs.Lines.{LeadsBy, SetStands, StandsBy}
use Rattle.certificate_text.specs.Reading.{Ends, Outcome, Reads, ReadsAs, end_of}
use Rattle.certificate_text.proofs.Zips.{zip_partner}
use Rattle.lists.proofs.Zips.{zip_same}
use Rattle.iccma_tasks.proofs.Exact.{bad_or_falling}

-- ---- what fields say

one_set : (fields : List (List ℕ)) (s t : List ℕ) → AreRisingArguments fields s → AreRisingArguments fields t → s ≡ t
one_set fields s t h k = AreArguments-unique fields s t h.arguments k.arguments

one_ordinal : (field : List ℕ) (m n : ℕ) → SpellsOrdinal field m → SpellsOrdinal field n → m ≡ n
one_ordinal field m n h k = sym h.number.value ∙ k.number.value

same_parts : (fields : List (List ℕ)) (p q : Parts) → parts_of fields ≡ Some p → parts_of fields ≡ Some q → p ≡ q
same_parts fields p q h k = let e = sym h ∙ k in cc e

one_derived : (fields : List (List ℕ)) (ls ks : List AtomLit) (hs gs : List ℕ) → IsDerivedOf fields ls hs
    → IsDerivedOf fields ks gs → Derived ls hs ≡ Derived ks gs
one_derived fields ls ks hs gs h k =
    let same = same_parts fields h.parts k.parts h.cut k.cut in
    let literals : ls ≡ ks = zip_same IsLitText one_literal k.parts.literals ls ks
    (subst (λ p. AllZip IsLitText p.literals ls) same h.literals_are) k.literals_are in
    let hints : hs ≡ gs = zip_same SpellsOrdinal one_ordinal k.parts.hints hs gs
    (subst (λ p. AllZip SpellsOrdinal p.hints hs) same h.hints_are) k.hints_are in
    ap (λ x. Derived x hs) literals ∙ ap (λ x. Derived ks x) hints

one_field : (fields : List (List ℕ)) (f g : List ℕ) → fields ≡ f ∷ [] → fields ≡ g ∷ [] → f ≡ g
one_field fields f g h k = ap (λ fs. get_or fs 0 []) (sym h ∙ k)

one_step : (word : Word) (fields : List (List ℕ)) (s t : Step) → IsStepOf word fields s → IsStepOf word fields t → s ≡ t
one_step AxiomWord fields (Axiom a) (Axiom b) h k = ap Axiom (one_axiom fields a b h k)
one_step AxiomWord fields (Axiom a) (Side n) h k = absurd k
one_step AxiomWord fields (Axiom a) (Derived ls hs) h k = absurd k
one_step AxiomWord fields (Side n) t h k = absurd h
one_step AxiomWord fields (Derived ls hs) t h k = absurd h
one_step SideWord fields (Side m) (Side n) h k =
    ap Side (one_ordinal k.0 m n (subst (λ f. SpellsOrdinal f m) (one_field fields h.0 k.0 h.1 k.1) h.2) k.2)
one_step SideWord fields (Side m) (Axiom a) h k = absurd k
one_step SideWord fields (Side m) (Derived ls hs) h k = absurd k
one_step SideWord fields (Axiom a) t h k = absurd h
one_step SideWord fields (Derived ls hs) t h k = absurd h
one_step DerivedWord fields (Derived ls hs) (Derived ks gs) h k = one_derived fields ls ks hs gs h k
one_step DerivedWord fields (Derived ls hs) (Axiom a) h k = absurd k
one_step DerivedWord fields (Derived ls hs) (Side n) h k = absurd k
one_step DerivedWord fields (Axiom a) t h k = absurd h
one_step DerivedWord fields (Side n) t h k = absurd h
one_step HeaderWord fields s t h k = absurd h
one_step SetWord fields s t h k = absurd h
one_step RefutationWord fields s t h k = absurd h
one_step EndWord fields s t h k = absurd h
one_step OtherWord fields s t h k = absurd h

-- ---- where a line leads

abbrev StepLeads : List (List ℕ) → List Refutation → List Step → Word → List (List ℕ) → Draft → Type 0
StepLeads sets whole steps word fields after =
    (step : Step) × IsStepOf word fields step × (after ≡ StepsRead sets whole (steps ++ step ∷ []))

one_step_led : (sets : List (List ℕ)) (whole : List Refutation) (steps : List Step) (word : Word)
    (fields : List (List ℕ)) (a b : Draft) → StepLeads sets whole steps word fields a
    → StepLeads sets whole steps word fields b → a ≡ b
one_step_led sets whole steps word fields a b h k =
    h.2 ∙ ap (λ s. StepsRead sets whole (steps ++ s ∷ [])) (one_step word fields h.0 k.0 h.1 k.1) ∙ sym k.2

leads_one : (draft : Draft) (word : Word) (fields : List (List ℕ)) (a b : Draft) → LeadsBy draft word fields a
    → LeadsBy draft word fields b → a ≡ b
leads_one Nothing HeaderWord fields a b h k = h.1 ∙ sym k.1
leads_one Nothing SetWord fields a b h k = absurd h
leads_one Nothing RefutationWord fields a b h k = absurd h
leads_one Nothing AxiomWord fields a b h k = absurd h
leads_one Nothing SideWord fields a b h k = absurd h
leads_one Nothing DerivedWord fields a b h k = absurd h
leads_one Nothing EndWord fields a b h k = absurd h
leads_one Nothing OtherWord fields a b h k = absurd h
leads_one (SetsRead sets) SetWord fields a b h k =
    h.2 ∙ ap (λ s. SetsRead (sets ++ s ∷ [])) (one_set fields h.0 k.0 h.1 k.1) ∙ sym k.2
leads_one (SetsRead sets) RefutationWord fields a b h k = h.1 ∙ sym k.1
leads_one (SetsRead sets) EndWord fields a b h k = h.1 ∙ sym k.1
leads_one (SetsRead sets) HeaderWord fields a b h k = absurd h
leads_one (SetsRead sets) AxiomWord fields a b h k = absurd h
leads_one (SetsRead sets) SideWord fields a b h k = absurd h
leads_one (SetsRead sets) DerivedWord fields a b h k = absurd h
leads_one (SetsRead sets) OtherWord fields a b h k = absurd h
leads_one (StepsRead sets whole steps) RefutationWord fields a b h k = h.1 ∙ sym k.1
leads_one (StepsRead sets whole steps) EndWord fields a b h k = h.1 ∙ sym k.1
leads_one (StepsRead sets whole steps) HeaderWord fields a b h k = one_step_led sets whole steps HeaderWord fields a b h k
leads_one (StepsRead sets whole steps) SetWord fields a b h k = one_step_led sets whole steps SetWord fields a b h k
leads_one (StepsRead sets whole steps) AxiomWord fields a b h k = one_step_led sets whole steps AxiomWord fields a b h k
leads_one (StepsRead sets whole steps) SideWord fields a b h k = one_step_led sets whole steps SideWord fields a b h k
leads_one (StepsRead sets whole steps) DerivedWord fields a b h k = one_step_led sets whole steps DerivedWord fields a b h k
leads_one (StepsRead sets whole steps) OtherWord fields a b h k = one_step_led sets whole steps OtherWord fields a b h k
leads_one (AllRead read) word fields a b h k = absurd h

-- ---- what stands at a line

set_cases : (fields : List (List ℕ)) (c : CertCause) → SetStands fields c
    → ((c ≡ BadNumber) × HasBadNumber fields) ⊎ ((c ≡ NotRising) × HasFallingNumbers fields)
set_cases fields BadNumber h = inl (refl, h)
set_cases fields NotRising h = inr (refl, h)
set_cases fields _ h = absurd h

set_stands_one : (fields : List (List ℕ)) (c d : CertCause) → SetStands fields c → SetStands fields d → c ≡ d
set_stands_one fields c d h k = elim (set_cases fields c h) [
  | inl x ↦ elim (set_cases fields d k) [
    | inl y ↦ x.0 ∙ sym y.0
    | inr y ↦ absurd (bad_or_falling fields x.1 y.1)
  ]
  | inr x ↦ elim (set_cases fields d k) [
    | inl y ↦ absurd (bad_or_falling fields y.1 x.1)
    | inr y ↦ x.0 ∙ sym y.0
  ]
]

set_sound : (fields : List (List ℕ)) (s : List ℕ) (c : CertCause) → AreRisingArguments fields s → SetStands fields c → ⊥
set_sound fields s c h k = elim (set_cases fields c k) [
  | inl y ↦ y.1.bad (get_or s y.1.index 0) (h.arguments.each y.1.index y.1.within)
  | inr y ↦ y.1.falls (subst IsStrictlyIncreasing (AreArguments-unique fields s y.1.numbers h.arguments y.1.arguments) h.rises)
]

axiom_cases : (fields : List (List ℕ)) (c : CertCause) → AxiomStands fields c
    → ((c ≡ BadLine) × (fields ≡ [])) ⊎ ((c ≡ BadAxiom) × AxiomStands fields BadAxiom)
axiom_cases fields BadLine h = inl (refl, h)
axiom_cases fields BadAxiom h = inr (refl, h)
axiom_cases fields _ h = absurd h

axiom_stands_one : (fields : List (List ℕ)) (c d : CertCause) → AxiomStands fields c → AxiomStands fields d → c ≡ d
axiom_stands_one fields c d h k = elim (axiom_cases fields c h) [
  | inl x ↦ elim (axiom_cases fields d k) [
    | inl y ↦ x.0 ∙ sym y.0
    | inr y ↦ absurd (y.1.0 x.1)
  ]
  | inr x ↦ elim (axiom_cases fields d k) [
    | inl y ↦ absurd (x.1.0 y.1)
    | inr y ↦ x.0 ∙ sym y.0
  ]
]

side_cases : (fields : List (List ℕ)) (c : CertCause) → SideStands fields c
    → ((c ≡ BadLine) × (length fields ≢ 1)) ⊎ ((c ≡ BadNumber) × SideStands fields BadNumber)
side_cases fields BadLine h = inl (refl, h)
side_cases fields BadNumber h = inr (refl, h)
side_cases fields _ h = absurd h

side_stands_one : (fields : List (List ℕ)) (c d : CertCause) → SideStands fields c → SideStands fields d → c ≡ d
side_stands_one fields c d h k = elim (side_cases fields c h) [
  | inl x ↦ elim (side_cases fields d k) [
    | inl y ↦ x.0 ∙ sym y.0
    | inr y ↦ absurd (x.1 (ap length y.1.1))
  ]
  | inr x ↦ elim (side_cases fields d k) [
    | inl y ↦ absurd (y.1 (ap length x.1.1))
    | inr y ↦ x.0 ∙ sym y.0
  ]
]

derived_cases : (fields : List (List ℕ)) (c : CertCause) → DerivedStands fields c
    → ((c ≡ BadLine) × (parts_of fields ≡ None))
    ⊎ (((c ≡ BadNumber) × DerivedStands fields BadNumber) ⊎ ((c ≡ BadAtom) × DerivedStands fields BadAtom))
derived_cases fields BadLine h = inl (refl, h)
derived_cases fields BadNumber h = inr (inl (refl, h))
derived_cases fields BadAtom h = inr (inr (refl, h))
derived_cases fields _ h = absurd h

uncut : (fields : List (List ℕ)) (p : Parts) → parts_of fields ≡ None → parts_of fields ≡ Some p → ⊥
uncut fields p h k = let e = sym h ∙ k in cc e

hints_both : (fields : List (List ℕ)) → DerivedStands fields BadNumber → DerivedStands fields BadAtom → ⊥
hints_both fields x y =
    let same = same_parts fields x.0 y.0 x.1 y.2 in
    let bad = subst (λ p. HasBadOrdinal p.hints) same x.2 in
    let found = zip_partner SpellsOrdinal y.0.hints y.1 bad.field y.3 bad.listed in
    bad.bad found.0 found.1

derived_stands_one : (fields : List (List ℕ)) (c d : CertCause) → DerivedStands fields c → DerivedStands fields d → c ≡ d
derived_stands_one fields c d h k = elim (derived_cases fields c h) [
  | inl x ↦ elim (derived_cases fields d k) [
    | inl y ↦ x.0 ∙ sym y.0
    | inr y ↦ absurd (⊎_elim (λ z. uncut fields z.1.0 x.1 z.1.1) (λ z. uncut fields z.1.0 x.1 z.1.2) y)
  ]
  | inr x ↦ elim (derived_cases fields d k) [
    | inl y ↦ absurd (⊎_elim (λ z. uncut fields z.1.0 y.1 z.1.1) (λ z. uncut fields z.1.0 y.1 z.1.2) x)
    | inr y ↦ ⊎_elim
        (λ z. ⊎_elim (λ w. z.0 ∙ sym w.0) (λ w. absurd (hints_both fields z.1 w.1)) y)
        (λ z. ⊎_elim (λ w. absurd (hints_both fields w.1 z.1)) (λ w. z.0 ∙ sym w.0) y) x
  ]
]

stands_one : (draft : Draft) (word : Word) (fields : List (List ℕ)) (c d : CertCause) → StandsBy draft word fields c
    → StandsBy draft word fields d → c ≡ d
stands_one Nothing HeaderWord fields c d h k = h.1 ∙ sym k.1
stands_one Nothing SetWord fields c d h k = h ∙ sym k
stands_one Nothing RefutationWord fields c d h k = h ∙ sym k
stands_one Nothing AxiomWord fields c d h k = h ∙ sym k
stands_one Nothing SideWord fields c d h k = h ∙ sym k
stands_one Nothing DerivedWord fields c d h k = h ∙ sym k
stands_one Nothing EndWord fields c d h k = h ∙ sym k
stands_one Nothing OtherWord fields c d h k = h ∙ sym k
stands_one (SetsRead sets) SetWord fields c d h k = set_stands_one fields c d h k
stands_one (SetsRead sets) RefutationWord fields c d h k = h.1 ∙ sym k.1
stands_one (SetsRead sets) EndWord fields c d h k = h.1 ∙ sym k.1
stands_one (SetsRead sets) HeaderWord fields c d h k = h ∙ sym k
stands_one (SetsRead sets) AxiomWord fields c d h k = h ∙ sym k
stands_one (SetsRead sets) SideWord fields c d h k = h ∙ sym k
stands_one (SetsRead sets) DerivedWord fields c d h k = h ∙ sym k
stands_one (SetsRead sets) OtherWord fields c d h k = h ∙ sym k
stands_one (StepsRead sets whole steps) RefutationWord fields c d h k = h.1 ∙ sym k.1
stands_one (StepsRead sets whole steps) EndWord fields c d h k = h.1 ∙ sym k.1
stands_one (StepsRead sets whole steps) AxiomWord fields c d h k = axiom_stands_one fields c d h k
stands_one (StepsRead sets whole steps) SideWord fields c d h k = side_stands_one fields c d h k
stands_one (StepsRead sets whole steps) DerivedWord fields c d h k = derived_stands_one fields c d h k
stands_one (StepsRead sets whole steps) HeaderWord fields c d h k = h ∙ sym k
stands_one (StepsRead sets whole steps) SetWord fields c d h k = h ∙ sym k
stands_one (StepsRead sets whole steps) OtherWord fields c d h k = h ∙ sym k
stands_one (AllRead read) word fields c d h k = h ∙ sym k

-- ---- a line leads on, or a cause stands there

axiom_sound : (fields : List (List ℕ)) (s : Step) (c : CertCause) → IsStepOf AxiomWord fields s → AxiomStands fields c → ⊥
axiom_sound fields (Axiom which) c h k = elim (axiom_cases fields c k) [
  | inl y ↦ let e = sym y.1 ∙ h.fields_are in cc e
  | inr y ↦ y.1.1 which h
]
axiom_sound fields (Side n) c h k = h
axiom_sound fields (Derived ls hs) c h k = h

side_sound : (fields : List (List ℕ)) (s : Step) (c : CertCause) → IsStepOf SideWord fields s → SideStands fields c → ⊥
side_sound fields (Side n) c h k = elim (side_cases fields c k) [
  | inl y ↦ y.1 (ap length h.1)
  | inr y ↦ y.1.2 n (subst (λ f. SpellsOrdinal f n) (one_field fields h.0 y.1.0 h.1 y.1.1) h.2)
]
side_sound fields (Axiom a) c h k = h
side_sound fields (Derived ls hs) c h k = h

derived_sound : (fields : List (List ℕ)) (s : Step) (c : CertCause) → IsStepOf DerivedWord fields s
    → DerivedStands fields c → ⊥
derived_sound fields (Derived ls hs) c h k = elim (derived_cases fields c k) [
  | inl y ↦ uncut fields h.parts y.1 h.cut
  | inr y ↦ ⊎_elim
      (λ z.
      let bad = subst (λ p. HasBadOrdinal p.hints) (same_parts fields z.1.0 h.parts z.1.1 h.cut) z.1.2 in
      let found = zip_partner SpellsOrdinal h.parts.hints hs bad.field h.hints_are bad.listed in
      bad.bad found.0 found.1)
      (λ z.
      let bad = subst (λ p. HasBadLiteral p.literals) (same_parts fields z.1.0 h.parts z.1.2 h.cut) z.1.4 in
      let found = zip_partner IsLitText h.parts.literals ls bad.field h.literals_are bad.listed in
      bad.bad found.0 found.1) y
]
derived_sound fields (Axiom a) c h k = h
derived_sound fields (Side n) c h k = h

leads_sound : (draft : Draft) (word : Word) (fields : List (List ℕ)) (a : Draft) (c : CertCause)
    → LeadsBy draft word fields a → StandsBy draft word fields c → ⊥
leads_sound Nothing HeaderWord fields a c h k = k.0 h.0
leads_sound Nothing SetWord fields a c h k = h
leads_sound Nothing RefutationWord fields a c h k = h
leads_sound Nothing AxiomWord fields a c h k = h
leads_sound Nothing SideWord fields a c h k = h
leads_sound Nothing DerivedWord fields a c h k = h
leads_sound Nothing EndWord fields a c h k = h
leads_sound Nothing OtherWord fields a c h k = h
leads_sound (SetsRead sets) SetWord fields a c h k = set_sound fields h.0 c h.1 k
leads_sound (SetsRead sets) RefutationWord fields a c h k = k.0 h.0
leads_sound (SetsRead sets) EndWord fields a c h k = k.0 h.0
leads_sound (SetsRead sets) HeaderWord fields a c h k = h
leads_sound (SetsRead sets) AxiomWord fields a c h k = h
leads_sound (SetsRead sets) SideWord fields a c h k = h
leads_sound (SetsRead sets) DerivedWord fields a c h k = h
leads_sound (SetsRead sets) OtherWord fields a c h k = h
leads_sound (StepsRead sets whole steps) RefutationWord fields a c h k = k.0 h.0
leads_sound (StepsRead sets whole steps) EndWord fields a c h k = k.0 h.0
leads_sound (StepsRead sets whole steps) AxiomWord fields a c h k = axiom_sound fields h.0 c h.1 k
leads_sound (StepsRead sets whole steps) SideWord fields a c h k = side_sound fields h.0 c h.1 k
leads_sound (StepsRead sets whole steps) DerivedWord fields a c h k = derived_sound fields h.0 c h.1 k
leads_sound (StepsRead sets whole steps) HeaderWord fields a c h k = h.1
leads_sound (StepsRead sets whole steps) SetWord fields a c h k = h.1
leads_sound (StepsRead sets whole steps) OtherWord fields a c h k = h.1
leads_sound (AllRead read) word fields a c h k = h

-- ---- lines

one_end : (draft : Draft) (end : ℕ) (a b : Outcome) → Ends draft end a → Ends draft end b → a ≡ b
one_end Nothing end a b h k = h ∙ sym k
one_end (SetsRead sets) end a b h k = h ∙ sym k
one_end (StepsRead sets whole steps) end a b h k = h ∙ sym k
one_end (AllRead read) end a b h k = h ∙ sym k

pub one_outcome : (end : ℕ) (draft : Draft) (lines : List LineText) (a b : Outcome) → Reads end draft lines a
    → Reads end draft lines b → a ≡ b
one_outcome end draft [] a b h k = one_end draft end a b h k
one_outcome end draft (line ∷ lines) a b h k = elim h [
  | inl x ↦ elim k [
    | inl y ↦
        let same = leads_one draft _ (behind_first (field_texts line.text)) x.0 y.0 x.1 y.1 in
        one_outcome end y.0 lines a b (subst (λ d. Reads end d lines a) same x.2) y.2
    | inr y ↦ absurd (leads_sound draft _ (behind_first (field_texts line.text)) x.0 y.0 x.1 y.1)
  ]
  | inr x ↦ elim k [
    | inl y ↦ absurd (leads_sound draft _ (behind_first (field_texts line.text)) y.0 x.0 y.1 x.1)
    | inr y ↦
        let same = stands_one draft _ (behind_first (field_texts line.text)) x.0 y.0 x.1 y.1 in
        x.2 ∙ ap (λ c. Err (At line.number c)) same ∙ sym y.2
  ]
]

pub one_reading : (bytes : List ℕ) (a b : Outcome) → ReadsAs bytes a → ReadsAs bytes b → a ≡ b
one_reading bytes a b h k = one_outcome (end_of bytes) Nothing (kept_lines bytes) a b h k
