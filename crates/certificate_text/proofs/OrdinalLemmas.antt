-- Numbers that are read one by one.
use Rattle.std.proofs.Common.{◌≡◌, ℕ, ◌≤◌, List, [], ◌∷◌, ◌++◌, map, refl, sym, ap, subst, ◌∙◌, append_assoc}
use Rattle.std.specs.Prelude.{Option, None, Some, IfSome}
use Rattle.std.specs.List.{AllZip}
use Rattle.std.proofs.lemmas.List.{append-nil}
use Rattle.num_text.specs.Cuts.{FieldText}
use Rattle.num_text.specs.Number.{IsNumber}
use Rattle.num_text.specs.Numerals.{IsReadNumber, TakesField}
use Rattle.certificate_text.specs.StepFields.{HasBadNumber, HasBadOrdinal, SpellsOrdinal}
use Rattle.certificate_text.proofs.Zips.{among}
use Rattle.lists.proofs.Zips.{zip_push}

-- of all fields these are left, and the others spell the numbers
pub record ReadTo (Spells : List ℕ → ℕ → Type 0) (fields left : List (List ℕ)) (numbers : List ℕ) : Type 0 where
  pub front : List (List ℕ)
  pub cut : fields ≡ front ++ left
  pub are : AllZip Spells front numbers

abbrev pub OrdinalsTo : List (List ℕ) → List (List ℕ) → List ℕ → Type 0
OrdinalsTo fields left numbers = ReadTo SpellsOrdinal fields left numbers

abbrev pub NumbersTo : List (List ℕ) → List (List ℕ) → List ℕ → Type 0
NumbersTo fields left numbers = ReadTo IsNumber fields left numbers

pub read_start : (Spells : List ℕ → ℕ → Type 0) (fields : List (List ℕ)) → ReadTo Spells fields fields []
read_start Spells fields = record { front = []; cut = refl; are = tt }

pub read_next : (Spells : List ℕ → ℕ → Type 0) (fields left : List (List ℕ)) (field : List ℕ) (more : List (List ℕ))
    (numbers : List ℕ) (n : ℕ) → ReadTo Spells fields left numbers → left ≡ field ∷ more → Spells field n
    → ReadTo Spells fields more (numbers ++ n ∷ [])
read_next Spells fields left field more numbers n to cut spelled = record {
  front = to.front ++ field ∷ [];
  cut = to.cut ∙ ap (λ l. to.front ++ l) cut ∙ sym (append_assoc to.front (field ∷ []) more);
  are = zip_push Spells to.front numbers field n to.are spelled;
}

pub read_end : (Spells : List ℕ → ℕ → Type 0) (fields left : List (List ℕ)) (numbers : List ℕ)
    → ReadTo Spells fields left numbers → left ≡ [] → AllZip Spells fields numbers
read_end Spells fields left numbers to cut =
    let all : to.front ≡ fields = sym (to.cut ∙ ap (λ l. to.front ++ l) cut ∙ append-nil to.front) in
    subst (λ fs. AllZip Spells fs numbers) all to.are

pub ordinals_bad : (fields left : List (List ℕ)) (field : List ℕ) (more : List (List ℕ)) (numbers : List ℕ)
    → OrdinalsTo fields left numbers → left ≡ field ∷ more → ((n : ℕ) → SpellsOrdinal field n → ⊥)
    → HasBadOrdinal fields
ordinals_bad fields left field more numbers to cut bad =
    let all : to.front ++ field ∷ more ≡ fields = sym (to.cut ∙ ap (λ l. to.front ++ l) cut) in
    subst HasBadOrdinal all (record { field = field; listed = among to.front field more; bad = bad })

pub numbers_bad : (fields left : List (List ℕ)) (field : List ℕ) (more : List (List ℕ)) (numbers : List ℕ)
    → NumbersTo fields left numbers → left ≡ field ∷ more → ((n : ℕ) → IsNumber field n → ⊥) → HasBadNumber fields
numbers_bad fields left field more numbers to cut bad =
    let all : to.front ++ field ∷ more ≡ fields = sym (to.cut ∙ ap (λ l. to.front ++ l) cut) in
    subst HasBadNumber all (record { field = field; listed = among to.front field more; bad = bad })

-- ---- a number as it is read

pub taken : (before after : List FieldText) (text : List ℕ) → TakesField before text after
    → map (λ f. f.text) before ≡ text ∷ map (λ f. f.text) after
taken before after text takes =
    ap (map (λ f. f.text)) takes.fields_are ∙ ap (λ t. t ∷ map (λ f. f.text) after) takes.text_is

pub spelled : (text : List ℕ) (number : Option ℕ) (n : ℕ) → IsReadNumber text number
    → (number ≡ Some n) × (1 ≤ n) → SpellsOrdinal text n
spelled text number n is has = record {
  number = subst (λ found. IfSome found (IsNumber text)) has.0 is.read;
  from_one = has.1;
}

pub unspelled : (text : List ℕ) (number : Option ℕ) → IsReadNumber text number
    → ((n : ℕ) → number ≡ Some n → 1 ≤ n → ⊥) → (n : ℕ) → SpellsOrdinal text n → ⊥
unspelled text None is none n spells = is.none n spells.number
unspelled text (Some m) is none n spells =
    let same : m ≡ n = sym is.read.value ∙ spells.number.value in none n (ap Some same) spells.from_one

pub number_read : (text : List ℕ) (number : Option ℕ) (n : ℕ) → IsReadNumber text number → number ≡ Some n
    → IsNumber text n
number_read text number n is has = subst (λ found. IfSome found (IsNumber text)) has is.read

pub number_unread : (text : List ℕ) (number : Option ℕ) → IsReadNumber text number → number ≡ None → (n : ℕ)
    → IsNumber text n → ⊥
number_unread text None is e n spells = is.none n spells
number_unread text (Some m) is e n spells = absurd (cc)
