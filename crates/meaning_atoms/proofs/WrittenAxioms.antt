-- The fields of the text that is written of an axiom read as the axiom.
use Rattle.std.proofs.Common.{◌≡◌, ℕ, ◌<◌, ◌^◌, ◌==◌, Bool, true, false, not, List, [], ◌∷◌, ◌++◌, length, map, refl, ap, ◌∙◌, arith}
use Rattle.std.specs.Prelude.{All}
use Rattle.std.specs.List.{list_all}
use Rattle.std.specs.Fmt.{decimal}
use Rattle.std.proofs.lemmas.Bool.{and_parts, not-true}
use Rattle.std.proofs.lemmas.List.Elements.{All-nil, All-cons}
use Rattle.num_text.specs.Cuts.{is_blank, field_texts}
use Rattle.aba_laws.specs.semantics.specs.Arguments.{IsArgument}
use Rattle.meaning_atoms.specs.Atoms.{IsPosition}
use Rattle.meaning_atoms.specs.declared.axiom.AfAxiom.{AfAxiom}
use Rattle.meaning_atoms.specs.declared.axiom.AfAxiom.TheVariants.{A1, A2, A3, A4, A5, A6, A7, A8, A9, A10, A11, A12, A13, A14}
use Rattle.meaning_atoms.specs.declared.aba_axiom.AbaAxiom.{AbaAxiom}
use Rattle.meaning_atoms.specs.declared.aba_axiom.AbaAxiom.TheVariants.{B1, B2, B3, B4, B5, B6, B7, B8, B9, B9Con, B10, B11, B12, B13, B14, B15, B16, B17, B18, B19}
use Rattle.meaning_atoms.specs.declared.axiom.AxiomName.{AxiomName}
use Rattle.meaning_atoms.specs.declared.axiom.AxiomName.TheVariants.{Af, Aba}
use Rattle.meaning_atoms.specs.Axioms.{IsAfAxiom, IsStretch}
use Rattle.meaning_atoms.specs.AbaAxioms.{IsAbaAxiom}
use Rattle.meaning_atoms.specs.AxiomNames.{IsAxiomName}
use Rattle.meaning_atoms.specs.AxiomText.{IsAxiomFields, aba_arguments, aba_name, af_arguments, af_name, axiom_name, axiom_arguments, axiom_text}
use Rattle.meaning_atoms.proofs.WrittenLits.{AreWords, argument_word, atom_word, closure_word, place_word, spelled_each}
use Rattle.meaning_atoms.proofs.LoopNumbers.{loop_atom_word, loop_small}
use Rattle.meaning_atoms.proofs.WrittenFields.{IsField, decimal_fields, decimals_joined, fields_joined}

abbrev tests_whole : List ℕ → Bool
tests_whole text = list_all (λ b. not (is_blank b)) text

whole_from : (text : List ℕ) → tests_whole text ≡ true → All (λ b. is_blank b ≡ false) text
whole_from [] h = All-nil (λ b. is_blank b ≡ false)
whole_from (x ∷ xs) h =
    let parts = and_parts (not (is_blank x)) (tests_whole xs) h in
    All-cons (λ b. is_blank b ≡ false) x xs (not-true _ parts.0) (whole_from xs parts.1)

-- a text of some bytes of which the test finds no blank is one field
pub field_from : (text : List ℕ) → 0 < length text → tests_whole text ≡ true → IsField text
field_from text some whole = record { some_bytes = some; whole = whole_from text whole }

af_field : (which : AfAxiom) → IsField (af_name which)
af_field (A1 a) = field_from _ (omega arith) refl
af_field (A2 b a) = field_from _ (omega arith) refl
af_field (A3 b a) = field_from _ (omega arith) refl
af_field (A4 b a) = field_from _ (omega arith) refl
af_field (A5 a i j) = field_from _ (omega arith) refl
af_field (A6 a i) = field_from _ (omega arith) refl
af_field (A7 a) = field_from _ (omega arith) refl
af_field (A8 a i j) = field_from _ (omega arith) refl
af_field (A9 a i) = field_from _ (omega arith) refl
af_field (A10 a) = field_from _ (omega arith) refl
af_field (A11 a) = field_from _ (omega arith) refl
af_field (A12 a) = field_from _ (omega arith) refl
af_field (A13 a) = field_from _ (omega arith) refl
af_field (A14 part) = field_from _ (omega arith) refl

aba_field : (which : AbaAxiom) → IsField (aba_name which)
aba_field (B1 a) = field_from _ (omega arith) refl
aba_field (B2 a) = field_from _ (omega arith) refl
aba_field (B3 a) = field_from _ (omega arith) refl
aba_field (B4 k) = field_from _ (omega arith) refl
aba_field (B5 k r h) = field_from _ (omega arith) refl
aba_field (B6 k r x) = field_from _ (omega arith) refl
aba_field (B7 k r i j) = field_from _ (omega arith) refl
aba_field (B8 k r i) = field_from _ (omega arith) refl
aba_field (B9 k x) = field_from _ (omega arith) refl
aba_field (B9Con a c) = field_from _ (omega arith) refl
aba_field (B10 k x i j) = field_from _ (omega arith) refl
aba_field (B11 k x i) = field_from _ (omega arith) refl
aba_field (B12 a c) = field_from _ (omega arith) refl
aba_field (B13 a c) = field_from _ (omega arith) refl
aba_field (B14 a) = field_from _ (omega arith) refl
aba_field (B15 a) = field_from _ (omega arith) refl
aba_field (B16 part) = field_from _ (omega arith) refl
aba_field (B17 k x rows) = field_from _ (omega arith) refl
aba_field (B18 k a i j) = field_from _ (omega arith) refl
aba_field (B19 k a i) = field_from _ (omega arith) refl

pub axiom_field : (which : AxiomName) → IsField (axiom_name which)
axiom_field (Af which) = af_field which
axiom_field (Aba which) = aba_field which

af_small : (which : AfAxiom) → IsAfAxiom which → AreWords (af_arguments which)
af_small (A1 a) h = (argument_word a h, tt)
af_small (A2 b a) h = (argument_word b h.0, (argument_word a h.1, tt))
af_small (A3 b a) h = (argument_word b h.0, (argument_word a h.1, tt))
af_small (A4 b a) h = (argument_word b h.0, (argument_word a h.1, tt))
af_small (A5 a i j) h =
    (argument_word a h.argument, ((let o = h.order in let e = h.before_end in omega arith), ((let e = h.before_end in omega arith), tt)))
af_small (A6 a i) h = (argument_word a h.0, (place_word i h.1, tt))
af_small (A7 a) h = (argument_word a h, tt)
af_small (A8 a i j) h =
    (argument_word a h.argument, ((let o = h.order in let e = h.before_end in omega arith), ((let e = h.before_end in omega arith), tt)))
af_small (A9 a i) h = (argument_word a h.0, (place_word i h.1, tt))
af_small (A10 a) h = (argument_word a h, tt)
af_small (A11 a) h = (argument_word a h, tt)
af_small (A12 a) h = (argument_word a h, tt)
af_small (A13 a) h = (argument_word a h, tt)
af_small (A14 part) h = (omega arith, tt)

-- words of a stretch
stretch_words : (a i j : ℕ) → IsStretch a i j → (a < 2 ^ 32) × (i < 2 ^ 32) × (j < 2 ^ 32)
stretch_words a i j h =
    (argument_word a h.argument, (let o = h.order in let e = h.before_end in omega arith), (let e = h.before_end in omega arith))

aba_small : (which : AbaAxiom) → IsAbaAxiom which → AreWords (aba_arguments which)
aba_small (B1 a) h = (argument_word a h, tt)
aba_small (B2 a) h = (argument_word a h, tt)
aba_small (B3 a) h = (argument_word a h, tt)
aba_small (B4 k) h = (closure_word k, tt)
aba_small (B5 k r x) h = (closure_word k, (argument_word r h.0, (argument_word x h.1, tt)))
aba_small (B6 k r x) h = (closure_word k, (argument_word r h.0, (argument_word x h.1, tt)))
aba_small (B7 k r i j) h = let w = stretch_words r i j h in (closure_word k, (w.0, (w.1, (w.2, tt))))
aba_small (B8 k r i) h = (closure_word k, (argument_word r h.0, (place_word i h.1, tt)))
aba_small (B9 k x) h = (closure_word k, (argument_word x h, tt))
aba_small (B9Con a c) h = (omega arith, (argument_word a h.0, (atom_word c h.1, tt)))
aba_small (B10 k x i j) h = let w = stretch_words x i j h in (closure_word k, (w.0, (w.1, (w.2, tt))))
aba_small (B11 k x i) h = (closure_word k, (argument_word x h.0, (place_word i h.1, tt)))
aba_small (B12 a c) h = (argument_word a h.0, (atom_word c h.1, tt))
aba_small (B13 a c) h = (argument_word a h.0, (atom_word c h.1, tt))
aba_small (B14 a) h = (argument_word a h, tt)
aba_small (B15 a) h = (argument_word a h, tt)
aba_small (B16 part) h = (omega arith, tt)
aba_small (B17 k x rows) h = (closure_word k, (loop_atom_word x rows h, loop_small x rows h))
aba_small (B18 k a i j) h = let w = stretch_words a i j h in (closure_word k, (w.0, (w.1, (w.2, tt))))
aba_small (B19 k a i) h = (closure_word k, (argument_word a h.0, (place_word i h.1, tt)))

pub arguments_small : (which : AxiomName) → IsAxiomName which → AreWords (axiom_arguments which)
arguments_small (Af which) h = af_small which h
arguments_small (Aba which) h = aba_small which h

-- the fields that are written of an axiom
pub axiom_fields_are : (which : AxiomName) → IsAxiomName which
    → field_texts (axiom_text which) ≡ axiom_name which ∷ map decimal (axiom_arguments which)
axiom_fields_are which fits =
    let numbers = axiom_arguments which in
    ap (λ t. field_texts (axiom_name which ++ t)) (decimals_joined numbers)
    ∙ fields_joined (axiom_name which) (map decimal numbers) (axiom_field which)
    (decimal_fields numbers (arguments_small which fits))

pub axiom_reads : (which : AxiomName) → IsAxiomName which
    → IsAxiomFields (axiom_name which ∷ map decimal (axiom_arguments which)) which
axiom_reads which fits = record {
  numbers = map decimal (axiom_arguments which);
  fields_are = refl;
  spelled = spelled_each (axiom_arguments which) (arguments_small which fits);
  within = fits;
}
