-- Fields that are written with one blank between them are read again.
use Rattle.std.proofs.Common.{
  ◌≡◌,
  ℕ,
  ◌+◌,
  ◌<◌,
  ◌==◌,
  ◌^◌,
  Bool,
  true,
  false,
  not,
  List,
  [],
  ◌∷◌,
  ◌++◌,
  length,
  get_or,
  filter,
  map,
  refl,
  ap,
  ◌∙◌,
}
use Rattle.std.specs.Prelude.{All}
use Rattle.std.specs.List.{AllZip, flat_map, slice_split}
use Rattle.std.specs.Fmt.{decimal}
use Rattle.std.proofs.lemmas.List.{append-nil}
use Rattle.std.proofs.lemmas.List.Splits.{slice_split_at, slice_split_none}
use Rattle.num_text.specs.Cuts.{is_blank, field_texts}
use Rattle.num_text.specs.Number.{IsNumber}
use Rattle.num_text.proofs.Decimals.{decimal_number}
use Rattle.num_text.proofs.DigitFields.{no_blanks, keeps_field}
use Rattle.meaning_atoms.proofs.WrittenLits.{AreWords}

-- a text that is one field: some bytes, and none of them a blank
pub record IsField (text : List ℕ) : Type 0 where
  pub some_bytes : 0 < length text
  pub whole : All (λ b. is_blank b ≡ false) text

abbrev pub AreFields : List (List ℕ) → Type 0
AreFields [] = Unit {0}
AreFields (text ∷ texts) = IsField text × AreFields texts

one_field : (text : List ℕ) → IsField text → field_texts text ≡ text ∷ []
unfolding field_texts
one_field text is =
    ap (filter (λ p. not (length p == 0))) (slice_split_none is_blank text is.whole) ∙ keeps_field text [] is.some_bytes

next_field : (text rest : List ℕ) → IsField text → field_texts (text ++ 32 ∷ rest) ≡ text ∷ field_texts rest
unfolding field_texts
next_field text rest is =
    ap (filter (λ p. not (length p == 0))) (slice_split_at is_blank text 32 rest is.whole refl)
    ∙ keeps_field text (slice_split is_blank rest) is.some_bytes

pub fields_joined : (first : List ℕ) (texts : List (List ℕ)) → IsField first → AreFields texts
    → field_texts (first ++ flat_map (λ t. 32 ∷ t) texts) ≡ first ∷ texts
fields_joined first [] one more = ap field_texts (append-nil first) ∙ one_field first one
fields_joined first (t ∷ ts) one more =
    next_field first (t ++ flat_map (λ u. 32 ∷ u) ts) one ∙ ap (λ fs. first ∷ fs) (fields_joined t ts more.0 more.1)

-- ---- numbers as fields

pub decimals_joined : (ns : List ℕ) → flat_map (λ n. 32 ∷ decimal n) ns ≡ flat_map (λ t. 32 ∷ t) (map decimal ns)
decimals_joined [] = refl
decimals_joined (n ∷ ns) = ap (λ t. (32 ∷ decimal n) ++ t) (decimals_joined ns)

pub decimal_field : (n : ℕ) → n < 2 ^ 32 → IsField (decimal n)
decimal_field n small =
    let is = decimal_number n small in record { some_bytes = is.not_empty; whole = no_blanks (decimal n) is.digits }

pub decimal_fields : (ns : List ℕ) → AreWords ns → AreFields (map decimal ns)
decimal_fields [] small = tt
decimal_fields (n ∷ ns) small = (decimal_field n small.0, decimal_fields ns small.1)
