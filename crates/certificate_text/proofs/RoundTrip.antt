-- What is written of a certificate reads as the certificate.
use Rattle.std.proofs.Common.{◌≡◌, ℕ, ◌+◌, ◌<◌, ◌^◌, Bool, true, false, not, List, [], ◌∷◌, ◌++◌, length, map, refl}
use Rattle.std.proofs.Common.{sym, ap, subst, ◌∙◌, arith, codes, append_assoc, length-append}
use Rattle.std.specs.Prelude.{All, Ok}
use Rattle.std.specs.List.{AllZip, flat_map, list_all}
use Rattle.std.specs.List.Sorted.{IsStrictlyIncreasing}
use Rattle.std.specs.Fmt.{decimal}
use Rattle.std.proofs.lemmas.Bool.{and_parts, not-true}
use Rattle.std.proofs.lemmas.Grind.{flat_map-append}
use Rattle.std.proofs.lemmas.List.{append-nil}
use Rattle.std.proofs.lemmas.List.Elements.{All-append, All-cons, All-nil, All-head, All-tail}
use Rattle.num_text.specs.Cuts.{field_texts, is_blank, is_line_end, lines_from, lines_of}
use Rattle.num_text.specs.Lines.{are_skipped, kept, kept_lines}
use Rattle.num_text.specs.Number.{IsNumber}
use Rattle.num_text.proofs.CutLemmas.{lines_from-nil}
use Rattle.num_text.proofs.Decimals.{decimal_number}
use Rattle.num_text.proofs.DigitFields.{no_blanks, no_ends}
use Rattle.num_text.proofs.KeptLines.{kept-keeps, kept-nil}
use Rattle.iccma_tasks.specs.AnswerText.{IsSetLine}
use Rattle.iccma_tasks.specs.WrittenText.{HasArguments, set_line}
use Rattle.iccma_tasks.proofs.RoundTrip.{lines_from-more, written_set}
use Rattle.semantics.specs.Arguments.{IsArgument}
use Rattle.meaning_atoms.specs.declared.atom.Atom.{Atom}
use Rattle.meaning_atoms.specs.declared.atom.Atom.TheVariants.{Member, Live, Attack, Gap, Tail, Unmet, Range, Cf, Ad, Co, St, Ask}
use Rattle.meaning_atoms.specs.declared.atom.Atom.TheVariants.{Asm, Con, ConGap, Head, HGap, Body, BGap, Der, Miss, Sup, Hit}
use Rattle.meaning_atoms.specs.declared.atom.AtomLit.{AtomLit}
use Rattle.meaning_atoms.specs.declared.axiom.AfAxiom.{AfAxiom}
use Rattle.meaning_atoms.specs.declared.axiom.AfAxiom.TheVariants.{A1, A2, A3, A4, A5, A6, A7, A8, A9, A10, A11, A12, A13, A14}
use Rattle.meaning_atoms.specs.declared.aba_axiom.AbaAxiom.{AbaAxiom}
use Rattle.meaning_atoms.specs.declared.aba_axiom.AbaAxiom.TheVariants.{B1, B2, B3, B4, B5, B6, B7, B8, B9, B9Con, B10, B11, B12, B13, B14, B15, B16, B17, B18, B19}
use Rattle.meaning_atoms.specs.declared.axiom.AxiomName.{AxiomName}
use Rattle.meaning_atoms.specs.declared.axiom.AxiomName.TheVariants.{Af, Aba}
use Rattle.meaning_atoms.specs.Atoms.{IsLit}
use Rattle.meaning_atoms.specs.AtomText.{IsLitText, lit_text, name_of, numbers_of, signed}
use Rattle.meaning_atoms.specs.AxiomText.{aba_name, af_name, axiom_arguments, axiom_name}
use Rattle.meaning_atoms.proofs.WrittenAxioms.{arguments_small, axiom_reads, field_from}
use Rattle.meaning_atoms.proofs.WrittenFields.{AreFields, IsField, decimals_joined, fields_joined}
use Rattle.meaning_atoms.proofs.WrittenLits.{AreWords, written_reads}
use Rattle.certificate_claims.specs.declared.certificate.Certificate.{Certificate}
use Rattle.certificate_claims.specs.declared.certificate.Refutation.{Refutation}
use Rattle.certificate_claims.specs.declared.certificate.Step.{Step}
use Rattle.certificate_claims.specs.declared.certificate.Step.TheVariants.{Axiom, Side, Derived}
use Rattle.certificate_text.specs.StepFields.{SpellsOrdinal}
use Rattle.certificate_text.specs.CertText.{AreRefutations, IsCertText, IsStepLine}
use Rattle.certificate_text.specs.Reading.{ReadsAs, end_of, kept_fields}
use Rattle.certificate_text.specs.Written.{IsOrdinal, IsWritable, IsWritableStep, certificate_text, refutation_text, step_line}
use Rattle.certificate_text.proofs.Exact.{exact}

abbrev Fields : Type 0
Fields = List (List ℕ)

-- ---- texts as lines

abbrev fields_from : ℕ → ℕ → List ℕ → List Fields
fields_from number start bytes = map (λ l. field_texts l.text) (kept (lines_from number start bytes))

-- whatever stands behind it, the text is lines of these fields, of which none is skipped
record IsLines (text : List ℕ) (lines : List Fields) : Type 0 where
  read : (number start : ℕ) (rest : List ℕ)
      → (n : ℕ) × (s : ℕ) × (fields_from number start (text ++ rest) ≡ lines ++ fields_from n s rest)

from_line : (number start : ℕ) (piece rest : List ℕ) → All (λ b. is_line_end b ≡ false) piece
    → are_skipped (field_texts piece) ≡ false
    → fields_from number start (piece ++ 10 ∷ rest)
    ≡ field_texts piece ∷ fields_from (number + 1) (start + length piece + 1) rest
from_line number start piece rest none told =
    ap (λ ls. map (λ l. field_texts l.text) (kept ls)) (lines_from-more number start piece rest none)
    ∙ ap (map (λ l. field_texts l.text)) (kept-keeps
    (record { number = number; span = record { start = start; end = start + length piece }; text = piece })
    (lines_from (number + 1) (start + length piece + 1) rest) told)

one_line : (piece : List ℕ) → All (λ b. is_line_end b ≡ false) piece → are_skipped (field_texts piece) ≡ false
    → IsLines (piece ++ codes "\n") (field_texts piece ∷ [])
one_line piece none told = record {
  read = λ number start rest. (
    number + 1,
    start + length piece + 1,
    ap (fields_from number start) (append_assoc piece (codes "\n") rest) ∙ from_line number start piece rest none told,
  );
}

both : (t u : List ℕ) (ls ms : List Fields) → IsLines t ls → IsLines u ms → IsLines (t ++ u) (ls ++ ms)
both t u ls ms h k = record {
  read = λ number start rest.
      let a = h.read number start (u ++ rest) in
      let b = k.read a.0 a.1 rest in (
        b.0,
        b.1,
        ap (fields_from number start) (append_assoc t u rest) ∙ a.2 ∙ ap (λ x. ls ++ x) b.2
            ∙ sym (append_assoc ls ms (fields_from b.0 b.1 rest)),
      );
}

no_lines : IsLines [] []
no_lines = record { read = λ number start rest. (number, start, refl) }

each : {X : Type 0} (f : X → List ℕ) (g : X → List Fields) (P : X → Type 0) → ((x : X) → P x → IsLines (f x) (g x))
    → (xs : List X) → All P xs → IsLines (flat_map f xs) (flat_map g xs)
each f g P step [] all = no_lines
each f g P step (x ∷ xs) all =
    both (f x) (flat_map f xs) (g x) (flat_map g xs) (step x (All-head P x xs all)) (each f g P step xs (All-tail P x xs all))

all_lines : (text : List ℕ) (lines : List Fields) → IsLines text lines → kept_fields text ≡ lines
unfolding lines_of
all_lines text lines is =
    let a = is.read 1 0 [] in
    ap (fields_from 1 0) (sym (append-nil text)) ∙ a.2
    ∙ ap (λ ls. lines ++ map (λ l. field_texts l.text) (kept ls)) (lines_from-nil a.0 a.1)
    ∙ ap (λ ls. lines ++ map (λ l. field_texts l.text) ls) kept-nil ∙ append-nil lines

-- ---- fields that are written

-- a field without an end of a line
record IsInLine (text : List ℕ) : Type 0 where
  field : IsField text
  no_end : All (λ b. is_line_end b ≡ false) text

abbrev AreInLine : Fields → Type 0
AreInLine [] = Unit {0}
AreInLine (text ∷ texts) = IsInLine text × AreInLine texts

abbrev tests_line : List ℕ → Bool
tests_line text = list_all (λ b. not (is_line_end b)) text

no_end_from : (text : List ℕ) → tests_line text ≡ true → All (λ b. is_line_end b ≡ false) text
no_end_from [] h = All-nil (λ b. is_line_end b ≡ false)
no_end_from (x ∷ xs) h =
    let split = and_parts (not (is_line_end x)) (tests_line xs) h in
    All-cons (λ b. is_line_end b ≡ false) x xs (not-true _ split.0) (no_end_from xs split.1)

abbrev tests_whole : List ℕ → Bool
tests_whole text = list_all (λ b. not (is_blank b)) text

in_line_from : (text : List ℕ) → 0 < length text → tests_whole text ≡ true → tests_line text ≡ true → IsInLine text
in_line_from text some whole line = record { field = field_from text some whole; no_end = no_end_from text line }

in_line_fields : (texts : Fields) → AreInLine texts → AreFields texts
in_line_fields [] all = tt
in_line_fields (t ∷ ts) all = (all.0.field, in_line_fields ts all.1)

in_line_append : (xs ys : Fields) → AreInLine xs → AreInLine ys → AreInLine (xs ++ ys)
in_line_append [] ys h k = k
in_line_append (x ∷ xs) ys h k = (h.0, in_line_append xs ys h.1 k)

joined_no_end : (texts : Fields) → AreInLine texts → All (λ b. is_line_end b ≡ false) (flat_map (λ t. 32 ∷ t) texts)
joined_no_end [] all = All-nil (λ b. is_line_end b ≡ false)
joined_no_end (t ∷ ts) all = All-append (λ b. is_line_end b ≡ false) (32 ∷ t) (flat_map (λ u. 32 ∷ u) ts)
    (All-cons (λ b. is_line_end b ≡ false) 32 t refl all.0.no_end) (joined_no_end ts all.1)

-- fields with single blanks between them are a line
line_of : (first : List ℕ) (texts : Fields) → IsInLine first → AreInLine texts → are_skipped (first ∷ texts) ≡ false
    → IsLines ((first ++ flat_map (λ t. 32 ∷ t) texts) ++ codes "\n") ((first ∷ texts) ∷ [])
line_of first texts one more told =
    let piece = first ++ flat_map (λ t. 32 ∷ t) texts in
    let fields : field_texts piece ≡ first ∷ texts = fields_joined first texts one.field (in_line_fields texts more) in
    subst (λ fs. IsLines (piece ++ codes "\n") (fs ∷ [])) fields
    (one_line piece
    (All-append (λ b. is_line_end b ≡ false) first (flat_map (λ t. 32 ∷ t) texts) one.no_end (joined_no_end texts more))
    (ap are_skipped fields ∙ told))

decimal_in_line : (n : ℕ) → n < 2 ^ 32 → IsInLine (decimal n)
decimal_in_line n small =
    let is = decimal_number n small in
    record {
      field = record { some_bytes = is.not_empty; whole = no_blanks (decimal n) is.digits };
      no_end = no_ends (decimal n) is.digits;
    }

decimals_in_line : (ns : List ℕ) → AreWords ns → AreInLine (map decimal ns)
decimals_in_line [] small = tt
decimals_in_line (n ∷ ns) small = (decimal_in_line n small.0, decimals_in_line ns small.1)

-- ---- literals

name_in_line : (atom : Atom) → IsInLine (name_of atom)
name_in_line (Member a) = in_line_from _ (omega arith) refl refl
name_in_line (Live a) = in_line_from _ (omega arith) refl refl
name_in_line (Attack b a) = in_line_from _ (omega arith) refl refl
name_in_line (Gap a i j) = in_line_from _ (omega arith) refl refl
name_in_line (Tail a i) = in_line_from _ (omega arith) refl refl
name_in_line (Unmet a i) = in_line_from _ (omega arith) refl refl
name_in_line (Range a) = in_line_from _ (omega arith) refl refl
name_in_line Cf = in_line_from _ (omega arith) refl refl
name_in_line Ad = in_line_from _ (omega arith) refl refl
name_in_line Co = in_line_from _ (omega arith) refl refl
name_in_line St = in_line_from _ (omega arith) refl refl
name_in_line (Ask n) = in_line_from _ (omega arith) refl refl
name_in_line (Asm a) = in_line_from _ (omega arith) refl refl
name_in_line (Con a c) = in_line_from _ (omega arith) refl refl
name_in_line (ConGap a i j) = in_line_from _ (omega arith) refl refl
name_in_line (Head r h) = in_line_from _ (omega arith) refl refl
name_in_line (HGap h i j) = in_line_from _ (omega arith) refl refl
name_in_line (Body r x) = in_line_from _ (omega arith) refl refl
name_in_line (BGap r i j) = in_line_from _ (omega arith) refl refl
name_in_line (Der k x) = in_line_from _ (omega arith) refl refl
name_in_line (Miss k r i) = in_line_from _ (omega arith) refl refl
name_in_line (Sup k x i) = in_line_from _ (omega arith) refl refl
name_in_line (Hit k a i) = in_line_from _ (omega arith) refl refl

signed_in_line : (positive : Bool) (name : List ℕ) → IsInLine name → IsInLine (signed positive name)
signed_in_line true name is = is
signed_in_line false name is = record {
  field = record {
    some_bytes = omega arith;
    whole = All-cons (λ b. is_blank b ≡ false) 45 name refl is.field.whole;
  };
  no_end = All-cons (λ b. is_line_end b ≡ false) 45 name refl is.no_end;
}

colons_whole : (P : ℕ → Type 0) → P 58 → ((n : ℕ) → n < 2 ^ 32 → All P (decimal n)) → (ns : List ℕ) → AreWords ns
    → All P (flat_map (λ n. 58 ∷ decimal n) ns)
colons_whole P colon digits [] small = All-nil P
colons_whole P colon digits (n ∷ ns) small =
    All-append P (58 ∷ decimal n) (flat_map (λ m. 58 ∷ decimal m) ns) (All-cons P 58 (decimal n) colon (digits n small.0))
    (colons_whole P colon digits ns small.1)

words_of : (texts : Fields) (ns : List ℕ) → AllZip IsNumber texts ns → AreWords ns
words_of [] [] all = tt
words_of [] (n ∷ ns) all = absurd all
words_of (t ∷ ts) [] all = absurd all
words_of (t ∷ ts) (n ∷ ns) all = (all.0.fits, words_of ts ns all.1)

lit_in_line : (l : AtomLit) → IsLit l → IsInLine (lit_text l)
lit_in_line l fits =
    let text = written_reads l fits in
    let small = words_of text.numbers (numbers_of l.atom) text.spelled in
    let name = signed_in_line l.positive (name_of l.atom) (name_in_line l.atom) in
    let first = signed l.positive (name_of l.atom) in
    let more = flat_map (λ n. 58 ∷ decimal n) (numbers_of l.atom) in
    record {
      field = record {
        some_bytes = let some = name.field.some_bytes in omega (arith, some, length-append first more);
        whole = All-append (λ b. is_blank b ≡ false) first more name.field.whole
            (colons_whole (λ b. is_blank b ≡ false) refl (λ n h. (decimal_in_line n h).field.whole) (numbers_of l.atom) small);
      };
      no_end = All-append (λ b. is_line_end b ≡ false) first more name.no_end
          (colons_whole (λ b. is_line_end b ≡ false) refl (λ n h. (decimal_in_line n h).no_end) (numbers_of l.atom) small);
    }

lits_in_line : (ls : List AtomLit) → All IsLit ls → AreInLine (map lit_text ls)
lits_in_line [] all = tt
lits_in_line (l ∷ ls) all = (lit_in_line l (All-head IsLit l ls all), lits_in_line ls (All-tail IsLit l ls all))

lits_read : (ls : List AtomLit) → All IsLit ls → AllZip IsLitText (map lit_text ls) ls
lits_read [] all = tt
lits_read (l ∷ ls) all = (written_reads l (All-head IsLit l ls all), lits_read ls (All-tail IsLit l ls all))

lits_joined : (ls : List AtomLit) → flat_map (λ l. 32 ∷ lit_text l) ls ≡ flat_map (λ t. 32 ∷ t) (map lit_text ls)
lits_joined [] = refl
lits_joined (l ∷ ls) = ap (λ t. (32 ∷ lit_text l) ++ t) (lits_joined ls)

-- ---- numbers

ordinals_small : (ns : List ℕ) → All IsOrdinal ns → AreWords ns
ordinals_small [] all = tt
ordinals_small (n ∷ ns) all =
    let one = All-head IsOrdinal n ns all in (one.fits, ordinals_small ns (All-tail IsOrdinal n ns all))

ordinal_reads : (n : ℕ) → IsOrdinal n → SpellsOrdinal (decimal n) n
ordinal_reads n is = record { number = decimal_number n is.fits; from_one = is.from_one }

ordinals_read : (ns : List ℕ) → All IsOrdinal ns → AllZip SpellsOrdinal (map decimal ns) ns
ordinals_read [] all = tt
ordinals_read (n ∷ ns) all =
    (ordinal_reads n (All-head IsOrdinal n ns all), ordinals_read ns (All-tail IsOrdinal n ns all))

arguments_words : (set : List ℕ) → HasArguments set → AreWords set
arguments_words [] all = tt
arguments_words (n ∷ ns) all =
    let bounds = All-head IsArgument n ns all in
    let high = bounds.high in
    (omega arith, arguments_words ns (All-tail IsArgument n ns all))

-- ---- steps

af_in_line : (which : AfAxiom) → IsInLine (af_name which)
af_in_line (A1 a) = in_line_from _ (omega arith) refl refl
af_in_line (A2 b a) = in_line_from _ (omega arith) refl refl
af_in_line (A3 b a) = in_line_from _ (omega arith) refl refl
af_in_line (A4 b a) = in_line_from _ (omega arith) refl refl
af_in_line (A5 a i j) = in_line_from _ (omega arith) refl refl
af_in_line (A6 a i) = in_line_from _ (omega arith) refl refl
af_in_line (A7 a) = in_line_from _ (omega arith) refl refl
af_in_line (A8 a i j) = in_line_from _ (omega arith) refl refl
af_in_line (A9 a i) = in_line_from _ (omega arith) refl refl
af_in_line (A10 a) = in_line_from _ (omega arith) refl refl
af_in_line (A11 a) = in_line_from _ (omega arith) refl refl
af_in_line (A12 a) = in_line_from _ (omega arith) refl refl
af_in_line (A13 a) = in_line_from _ (omega arith) refl refl
af_in_line (A14 part) = in_line_from _ (omega arith) refl refl

aba_in_line : (which : AbaAxiom) → IsInLine (aba_name which)
aba_in_line (B1 a) = in_line_from _ (omega arith) refl refl
aba_in_line (B2 a) = in_line_from _ (omega arith) refl refl
aba_in_line (B3 a) = in_line_from _ (omega arith) refl refl
aba_in_line (B4 k) = in_line_from _ (omega arith) refl refl
aba_in_line (B5 k r h) = in_line_from _ (omega arith) refl refl
aba_in_line (B6 k r x) = in_line_from _ (omega arith) refl refl
aba_in_line (B7 k r i j) = in_line_from _ (omega arith) refl refl
aba_in_line (B8 k r i) = in_line_from _ (omega arith) refl refl
aba_in_line (B9 k x) = in_line_from _ (omega arith) refl refl
aba_in_line (B9Con a c) = in_line_from _ (omega arith) refl refl
aba_in_line (B10 k x i j) = in_line_from _ (omega arith) refl refl
aba_in_line (B11 k x i) = in_line_from _ (omega arith) refl refl
aba_in_line (B12 a c) = in_line_from _ (omega arith) refl refl
aba_in_line (B13 a c) = in_line_from _ (omega arith) refl refl
aba_in_line (B14 a) = in_line_from _ (omega arith) refl refl
aba_in_line (B15 a) = in_line_from _ (omega arith) refl refl
aba_in_line (B16 part) = in_line_from _ (omega arith) refl refl
aba_in_line (B17 k x rows) = in_line_from _ (omega arith) refl refl
aba_in_line (B18 k a i j) = in_line_from _ (omega arith) refl refl
aba_in_line (B19 k a i) = in_line_from _ (omega arith) refl refl

axiom_in_line : (which : AxiomName) → IsInLine (axiom_name which)
axiom_in_line (Af which) = af_in_line which
axiom_in_line (Aba which) = aba_in_line which

step_fields : Step → Fields
step_fields (Axiom which) = codes "a" ∷ axiom_name which ∷ map decimal (axiom_arguments which)
step_fields (Side n) = codes "s" ∷ decimal n ∷ []
step_fields (Derived literals hints) = codes "d" ∷ (map lit_text literals ++ codes "0" ∷ map decimal hints)

derived_joined : (ls : List AtomLit) (hs : List ℕ)
    → codes "d" ++ flat_map (λ t. 32 ∷ t) (map lit_text ls ++ codes "0" ∷ map decimal hs)
    ≡ codes "d" ++ flat_map (λ l. 32 ∷ lit_text l) ls ++ codes " 0" ++ flat_map (λ n. 32 ∷ decimal n) hs
derived_joined ls hs =
    let front = flat_map (λ l. 32 ∷ lit_text l) ls in
    let behind = flat_map (λ n. 32 ∷ decimal n) hs in
    ap (λ t. codes "d" ++ t) (flat_map-append (λ t. 32 ∷ t) (map lit_text ls) (codes "0" ∷ map decimal hs))
    ∙ ap (λ t. codes "d" ++ (t ++ (codes " 0" ++ flat_map (λ u. 32 ∷ u) (map decimal hs)))) (sym (lits_joined ls))
    ∙ ap (λ t. codes "d" ++ (front ++ (codes " 0" ++ t))) (sym (decimals_joined hs))
    ∙ ap (λ t. codes "d" ++ t) (sym (append_assoc front (codes " 0") behind))

step_is_line : (step : Step) → IsWritableStep step → IsLines (step_line step) (step_fields step ∷ [])
unfolding step_fields
step_is_line (Axiom which) fits =
    let numbers = axiom_arguments which in
    subst (λ t. IsLines (t ++ codes "\n") (step_fields (Axiom which) ∷ []))
    (ap (λ t. codes "a " ++ (axiom_name which ++ t)) (sym (decimals_joined numbers)))
    (line_of (codes "a") (axiom_name which ∷ map decimal numbers) (in_line_from _ (omega arith) refl refl)
    (axiom_in_line which, decimals_in_line numbers (arguments_small which fits)) refl)
step_is_line (Side n) fits =
    subst (λ t. IsLines (t ++ codes "\n") (step_fields (Side n) ∷ []))
    (ap (λ t. codes "s " ++ t) (append-nil (decimal n)))
    (line_of (codes "s") (decimal n ∷ []) (in_line_from _ (omega arith) refl refl) (decimal_in_line n fits.fits, tt) refl)
step_is_line (Derived literals hints) fits =
    subst (λ t. IsLines (t ++ codes "\n") (step_fields (Derived literals hints) ∷ [])) (derived_joined literals hints)
    (line_of (codes "d") (map lit_text literals ++ codes "0" ∷ map decimal hints) (in_line_from _ (omega arith) refl refl)
    (in_line_append (map lit_text literals) (codes "0" ∷ map decimal hints) (lits_in_line literals fits.0)
    (in_line_from _ (omega arith) refl refl, decimals_in_line hints (ordinals_small hints fits.1))) refl)

step_reads : (step : Step) → IsWritableStep step → IsStepLine (step_fields step) step
unfolding step_fields
step_reads (Axiom which) fits =
    (axiom_name which ∷ map decimal (axiom_arguments which), refl, axiom_reads which fits)
step_reads (Side n) fits = (decimal n, refl, ordinal_reads n fits)
step_reads (Derived literals hints) fits = record {
  literal_fields = map lit_text literals;
  hint_fields = map decimal hints;
  fields_are = refl;
  literals_are = lits_read literals fits.0;
  hints_are = ordinals_read hints fits.1;
}

-- ---- refutations

abbrev steps_fields : List Step → List Fields
steps_fields steps = flat_map (λ s. step_fields s ∷ []) steps

abbrev refutation_fields : Refutation → List Fields
refutation_fields one = (codes "r" ∷ []) ∷ steps_fields one.steps

abbrev IsWritableRefutation : Refutation → Type 0
IsWritableRefutation one = All IsWritableStep one.steps

begin_is_line : IsLines (codes "r\n") ((codes "r" ∷ []) ∷ [])
begin_is_line = line_of (codes "r") [] (in_line_from _ (omega arith) refl refl) tt refl

refutation_is_lines : (one : Refutation) → IsWritableRefutation one → IsLines (refutation_text one) (refutation_fields one)
refutation_is_lines one fits =
    both (codes "r\n") (flat_map step_line one.steps) ((codes "r" ∷ []) ∷ []) (steps_fields one.steps) begin_is_line
    (each step_line (λ s. step_fields s ∷ []) IsWritableStep step_is_line one.steps fits)

steps_read : (steps : List Step) → All IsWritableStep steps → AllZip IsStepLine (steps_fields steps) steps
steps_read [] all = tt
steps_read (s ∷ ss) all =
    (step_reads s (All-head IsWritableStep s ss all), steps_read ss (All-tail IsWritableStep s ss all))

refutations_read : (list : List Refutation) → All IsWritableRefutation list
    → AreRefutations (flat_map refutation_fields list) list
refutations_read [] all = refl
refutations_read (one ∷ others) all = (
  steps_fields one.steps,
  flat_map refutation_fields others,
  refl,
  steps_read one.steps (All-head IsWritableRefutation one others all),
  refutations_read others (All-tail IsWritableRefutation one others all),
)

-- ---- sets

abbrev set_fields : List ℕ → Fields
set_fields set = codes "w" ∷ map decimal set

set_is_line : (set : List ℕ) → HasArguments set → IsLines (set_line set) (set_fields set ∷ [])
set_is_line set all =
    subst (λ t. IsLines (codes "w" ++ t ++ codes "\n") (set_fields set ∷ [])) (sym (decimals_joined set))
    (line_of (codes "w") (map decimal set) (in_line_from _ (omega arith) refl refl)
    (decimals_in_line set (arguments_words set all)) refl)

sets_read : (sets : List (List ℕ)) → All HasArguments sets → All IsStrictlyIncreasing sets
    → AllZip IsSetLine (flat_map (λ set. set_fields set ∷ []) sets) sets
sets_read [] all rise = tt
sets_read (s ∷ ss) all rise = (
  written_set s (All-head HasArguments s ss all) (All-head IsStrictlyIncreasing s ss rise),
  sets_read ss (All-tail HasArguments s ss all) (All-tail IsStrictlyIncreasing s ss rise),
)

-- ---- certificates

abbrev header_fields : Fields
header_fields = codes "cert" ∷ codes "1" ∷ []

abbrev end_fields : Fields
end_fields = codes "end" ∷ []

header_is_line : IsLines (codes "cert 1\n") (header_fields ∷ [])
header_is_line =
    line_of (codes "cert") (codes "1" ∷ []) (in_line_from _ (omega arith) refl refl)
    (in_line_from _ (omega arith) refl refl, tt) refl

end_is_line : IsLines (codes "end\n") (end_fields ∷ [])
end_is_line = line_of (codes "end") [] (in_line_from _ (omega arith) refl refl) tt refl

certificate_is_lines : (cert : Certificate) → IsWritable cert
    → kept_fields (certificate_text cert)
    ≡ header_fields ∷ (flat_map (λ set. set_fields set ∷ []) cert.sets
    ++ (flat_map refutation_fields cert.refutations ++ end_fields ∷ []))
certificate_is_lines cert fits =
    let sets = flat_map (λ set. set_fields set ∷ []) cert.sets in
    let refutations = flat_map refutation_fields cert.refutations in
    let header_text = codes "cert 1\n" in
    let sets_text = flat_map set_line cert.sets in
    let refutations_text = flat_map refutation_text cert.refutations in
    all_lines (certificate_text cert) (header_fields ∷ sets ++ refutations ++ end_fields ∷ [])
    (both (header_text ++ sets_text ++ refutations_text) (codes "end\n") (header_fields ∷ sets ++ refutations)
    (end_fields ∷ [])
    (both (header_text ++ sets_text) refutations_text (header_fields ∷ sets) refutations
    (both header_text sets_text (header_fields ∷ []) sets header_is_line
    (each set_line (λ set. set_fields set ∷ []) HasArguments set_is_line cert.sets fits.sets))
    (each refutation_text refutation_fields IsWritableRefutation refutation_is_lines cert.refutations fits.steps))
    end_is_line)
    ∙ append_assoc (header_fields ∷ sets) refutations (end_fields ∷ [])

written_is_text : (cert : Certificate) → All IsStrictlyIncreasing cert.sets → IsWritable cert
    → IsCertText (kept_fields (certificate_text cert)) cert
written_is_text cert rise fits = record {
  sets = flat_map (λ set. set_fields set ∷ []) cert.sets;
  refutations = flat_map refutation_fields cert.refutations;
  lines_are = certificate_is_lines cert fits;
  sets_are = sets_read cert.sets fits.sets rise;
  refutations_are = refutations_read cert.refutations fits.steps;
}

pub written_certificate_reads : (cert : Certificate) → All IsStrictlyIncreasing cert.sets → IsWritable cert
    → ReadsAs (certificate_text cert) (Ok cert)
written_certificate_reads cert rise fits =
    (exact (end_of (certificate_text cert)) (kept_lines (certificate_text cert)) cert).1 (written_is_text cert rise fits)
