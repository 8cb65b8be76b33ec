-- The text that is written of a literal reads as the literal.
use Rattle.std.proofs.Common.{◌≡◌, ℕ, ◌^◌, ◌<◌, Bool, true, false, not, List, [], ◌∷◌, ◌++◌, get_or, map, refl, ap, ◌∙◌, arith}
use Rattle.std.specs.List.{All, AllZip, flat_map, list_all, slice_split}
use Rattle.std.specs.Fmt.{decimal}
use Rattle.std.proofs.lemmas.Bool.{and_parts, ne_eqb, not-true}
use Rattle.std.proofs.lemmas.List.{append-nil}
use Rattle.std.proofs.lemmas.List.Elements.{All-nil, All-cons}
use Rattle.std.proofs.lemmas.List.Splits.{slice_split_none, slice_split_at}
use Rattle.num_text.specs.Number.{IsNumber, IsDigit}
use Rattle.num_text.proofs.Decimals.{decimal_number}
use Rattle.meaning_atoms.specs.declared.atom.Atom.{Atom}
use Rattle.meaning_atoms.specs.declared.atom.Atom.TheVariants.{Member, Live, Attack, Gap, Tail, Unmet, Range, Cf, Ad, Co, St, Ask}
use Rattle.meaning_atoms.specs.declared.atom.Atom.TheVariants.{Asm, Con, ConGap, Head, HGap, Body, BGap, Der, Miss, Sup, Hit}
use Rattle.meaning_atoms.specs.declared.atom.Closure.{Closure}
use Rattle.meaning_atoms.specs.declared.atom.Closure.TheVariants.{Own, Rest}
use Rattle.meaning_atoms.specs.declared.atom.AtomLit.{AtomLit}
use Rattle.aba_laws.specs.semantics.specs.Arguments.{IsArgument}
use Rattle.meaning_atoms.specs.Atoms.{IsPosition, IsAtom, IsAtomOrNone, IsLit, closure_number}
use Rattle.meaning_atoms.specs.AtomText.{is_colon, lit_text, name_of, numbers_of, signed, IsLitText}

-- no byte of the text is a colon
abbrev IsFree : List ℕ → Type 0
IsFree text = All (λ b. is_colon b ≡ false) text

abbrev tests_free : List ℕ → Bool
tests_free text = list_all (λ b. not (is_colon b)) text

free_from : (text : List ℕ) → tests_free text ≡ true → IsFree text
free_from [] h = All-nil (λ b. is_colon b ≡ false)
free_from (x ∷ xs) h =
    let parts = and_parts (not (is_colon x)) (tests_free xs) h in
    All-cons (λ b. is_colon b ≡ false) x xs (not-true _ parts.0) (free_from xs parts.1)

digits_free : (ds : List ℕ) → All IsDigit ds → IsFree ds
digits_free ds all = λ k d within. let h = all k d within in let high = h.high in
    ne_eqb (get_or ds k d) 58 (λ e. omega arith)

-- numbers of 32 bits
abbrev pub AreWords : List ℕ → Type 0
AreWords [] = Unit {0}
AreWords (n ∷ ns) = (n < 2 ^ 32) × AreWords ns

pub split_joined : (piece : List ℕ) (ns : List ℕ) → IsFree piece → AreWords ns
    → slice_split is_colon (piece ++ flat_map (λ n. 58 ∷ decimal n) ns) ≡ piece ∷ map decimal ns
split_joined piece [] free small = ap (λ t. slice_split is_colon t) (append-nil piece)
    ∙ slice_split_none is_colon piece free
split_joined piece (n ∷ ns) free small =
    slice_split_at is_colon piece 58 (decimal n ++ flat_map (λ m. 58 ∷ decimal m) ns) free refl
    ∙ ap (λ pieces. piece ∷ pieces)
    (split_joined (decimal n) ns (digits_free (decimal n) (decimal_number n small.0).digits) small.1)

pub spelled_each : (ns : List ℕ) → AreWords ns → AllZip IsNumber (map decimal ns) ns
spelled_each [] small = tt
spelled_each (n ∷ ns) small = (decimal_number n small.0, spelled_each ns small.1)

name_free : (atom : Atom) → tests_free (name_of atom) ≡ true
name_free (Member a) = refl
name_free (Live a) = refl
name_free (Attack b a) = refl
name_free (Gap a i j) = refl
name_free (Tail a i) = refl
name_free (Unmet a i) = refl
name_free (Range a) = refl
name_free Cf = refl
name_free Ad = refl
name_free Co = refl
name_free St = refl
name_free (Ask n) = refl
name_free (Asm a) = refl
name_free (Con a c) = refl
name_free (ConGap a i j) = refl
name_free (Head r h) = refl
name_free (HGap h i j) = refl
name_free (Body r x) = refl
name_free (BGap r i j) = refl
name_free (Der k x) = refl
name_free (Miss k r i) = refl
name_free (Sup k x i) = refl
name_free (Hit k a i) = refl

signed_free : (positive : Bool) (name : List ℕ) → tests_free name ≡ true → tests_free (signed positive name) ≡ true
signed_free true name h = h
signed_free false name h = h

pub argument_word : (a : ℕ) → IsArgument a → a < 2 ^ 32
argument_word a h = let high = h.high in omega arith

pub place_word : (i : ℕ) → IsPosition i → i < 2 ^ 32
place_word i h = let high = h.high in omega arith

pub closure_word : (k : Closure) → closure_number k < 2 ^ 32
closure_word Own = omega arith
closure_word Rest = omega arith

pub atom_word : (x : ℕ) → IsAtomOrNone x → x < 2 ^ 32
atom_word x h = let high = h.high in omega arith

numbers_small : (atom : Atom) → IsAtom atom → AreWords (numbers_of atom)
numbers_small (Member a) h = (argument_word a h, tt)
numbers_small (Live a) h = (argument_word a h, tt)
numbers_small (Attack b a) h = (argument_word b h.0, (argument_word a h.1, tt))
numbers_small (Gap a i j) h = (argument_word a h.0, (place_word i h.1, (place_word j h.2, tt)))
numbers_small (Tail a i) h = (argument_word a h.0, (place_word i h.1, tt))
numbers_small (Unmet a i) h = (argument_word a h.0, (place_word i h.1, tt))
numbers_small (Range a) h = (argument_word a h, tt)
numbers_small Cf h = tt
numbers_small Ad h = tt
numbers_small Co h = tt
numbers_small St h = tt
numbers_small (Ask n) h = (omega arith, tt)
numbers_small (Asm a) h = (argument_word a h, tt)
numbers_small (Con a c) h = (argument_word a h.0, (atom_word c h.1, tt))
numbers_small (ConGap a i j) h = (argument_word a h.0, (place_word i h.1, (place_word j h.2, tt)))
numbers_small (Head r k) h = (argument_word r h.0, (argument_word k h.1, tt))
numbers_small (HGap a i j) h = (argument_word a h.0, (place_word i h.1, (place_word j h.2, tt)))
numbers_small (Body r x) h = (argument_word r h.0, (argument_word x h.1, tt))
numbers_small (BGap a i j) h = (argument_word a h.0, (place_word i h.1, (place_word j h.2, tt)))
numbers_small (Der k x) h = (closure_word k, (atom_word x h, tt))
numbers_small (Miss k r i) h = (closure_word k, (argument_word r h.0, (place_word i h.1, tt)))
numbers_small (Sup k x i) h = (closure_word k, (atom_word x h.0, (place_word i h.1, tt)))
numbers_small (Hit k a i) h = (closure_word k, (argument_word a h.0, (place_word i h.1, tt)))

pub written_reads : (l : AtomLit) → IsLit l → IsLitText (lit_text l) l
written_reads l fits =
    let small = numbers_small l.atom fits in
    let name = signed l.positive (name_of l.atom) in
    record {
      numbers = map decimal (numbers_of l.atom);
      pieces = split_joined name (numbers_of l.atom)
          (free_from name (signed_free l.positive (name_of l.atom) (name_free l.atom))) small;
      spelled = spelled_each (numbers_of l.atom) small;
      within = fits;
    }
