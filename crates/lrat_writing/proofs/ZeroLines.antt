-- Lines of fields that end with `0`, and their fields.
use Rattle.std.proofs.Common.{◌≡◌, ℕ, ◌+◌, ◌<◌, ◌≤◌, ◌^◌, Bool, true, false, List, [], ◌∷◌, ◌++◌, length, get_or, map, filter, refl, sym, ap, subst, ◌∙◌, arith, codes, append_assoc, ⊎_elim}
use Rattle.std.specs.Prelude.{All, Contains, not, ◌==◌}
use Rattle.std.specs.List.{slice_split}
use Rattle.std.specs.Fmt.{decimal}
use Rattle.std.proofs.lemmas.List.Elements.{All-append, All-cons, All-nil, All-head, All-tail}
use Rattle.std.proofs.lemmas.List.Splits.{slice_split_at, slice_split_none}
use Rattle.num_text.specs.Cuts.{LineText, field_texts, is_blank, is_line_end, lines_from}
use Rattle.num_text.specs.Number.{IsNumber, IsDigit}
use Rattle.num_text.proofs.Decimals.{decimal_number}
use Rattle.num_text.proofs.DigitFields.{no_blanks, no_ends, keeps_field}
use Rattle.iccma_tasks.proofs.RoundTrip.{lines_from-more}
use Rattle.lists.proofs.Membership.{Contains-head, Contains-tail}
use Rattle.plain_lits.specs.declared.lit.Lit.{Lit}
use Rattle.lrat_text.specs.Numbers.{sign_text}
use Rattle.lrat_writing.specs.Texts.{lit_text, spaced, zero_line}

-- a text that is one field of a line
pub record IsWord (text : List ℕ) : Type 0 where
  pub some : 0 < length text
  pub no_blank : All (λ b. is_blank b ≡ false) text
  pub no_end : All (λ b. is_line_end b ≡ false) text

abbrev pub AreWords : List (List ℕ) → Type 0
AreWords [] = Unit {0}
AreWords (text ∷ texts) = IsWord text × AreWords texts

pub words_append : (xs ys : List (List ℕ)) → AreWords xs → AreWords ys → AreWords (xs ++ ys)
words_append [] ys h k = k
words_append (x ∷ xs) ys h k = (h.0, words_append xs ys h.1 k)

-- ---- numbers and literals

pub digits_word : (text : List ℕ) (n : ℕ) → IsNumber text n → IsWord text
digits_word text n is = record {
  some = is.not_empty;
  no_blank = no_blanks text is.digits;
  no_end = no_ends text is.digits;
}

pub decimal_word : (n : ℕ) → n < 2 ^ 32 → IsWord (decimal n)
decimal_word n small = digits_word (decimal n) n (decimal_number n small)

pub zero_number : IsNumber (codes "0") 0
zero_number = record {
  not_empty = omega arith;
  digits = All-cons IsDigit 48 [] (record { low = omega arith; high = omega arith }) (All-nil IsDigit);
  value = refl;
  fits = omega arith;
}

pub zero_word : IsWord (codes "0")
zero_word = digits_word (codes "0") 0 zero_number

pub signed_word : (positive : Bool) (n : ℕ) → n < 2 ^ 32 → IsWord (sign_text positive ++ decimal n)
signed_word true n small = decimal_word n small
signed_word false n small =
    let is = decimal_number n small in
    let word = decimal_word n small in
    record {
      some = omega arith;
      no_blank = All-cons (λ b. is_blank b ≡ false) 45 (decimal n) refl word.no_blank;
      no_end = All-cons (λ b. is_line_end b ≡ false) 45 (decimal n) refl word.no_end;
    }

pub literal_words : (clause : List Lit) → ((l : Lit) → Contains clause l → l.var < 2 ^ 32)
    → AreWords (map lit_text clause)
literal_words [] small = tt
literal_words (l ∷ ls) small = (
  signed_word l.positive l.var (small l (Contains-head l ls l refl)),
  literal_words ls (λ x c. small x (Contains-tail l ls x c)),
)

pub number_words : (ns : List ℕ) → ((n : ℕ) → Contains ns n → n < 2 ^ 32) → AreWords (map decimal ns)
number_words [] small = tt
number_words (n ∷ ns) small =
    (decimal_word n (small n (Contains-head n ns n refl)), number_words ns (λ x c. small x (Contains-tail n ns x c)))

-- ---- the fields of a line

pub one_field : (text : List ℕ) → IsWord text → field_texts text ≡ text ∷ []
unfolding field_texts
one_field text is =
    ap (λ pieces. filter (λ piece. not (length piece == 0)) pieces)
    (slice_split_none is_blank text is.no_blank) ∙ keeps_field text [] is.some

pub next_field : (text rest : List ℕ) → IsWord text → field_texts (text ++ 32 ∷ rest) ≡ text ∷ field_texts rest
unfolding field_texts
next_field text rest is =
    ap (λ pieces. filter (λ piece. not (length piece == 0)) pieces)
    (slice_split_at is_blank text 32 rest is.no_blank refl)
    ∙ keeps_field text (slice_split is_blank rest) is.some

spaced_more : (text : List ℕ) (texts : List (List ℕ)) (rest : List ℕ)
    → spaced (text ∷ texts) ++ rest ≡ text ++ 32 ∷ (spaced texts ++ rest)
spaced_more text texts rest =
    ap (λ x. x ++ rest) (append_assoc text (32 ∷ []) (spaced texts)) ∙ append_assoc text (32 ∷ spaced texts) rest

pub zero_fields : (texts : List (List ℕ)) → AreWords texts
    → field_texts (spaced texts ++ codes "0") ≡ texts ++ codes "0" ∷ []
zero_fields [] all = one_field (codes "0") zero_word
zero_fields (t ∷ ts) all =
    ap field_texts (spaced_more t ts (codes "0")) ∙ next_field t (spaced ts ++ codes "0") all.0
    ∙ ap (λ fs. t ∷ fs) (zero_fields ts all.1)

zero_ends : (texts : List (List ℕ)) → AreWords texts → All (λ b. is_line_end b ≡ false) (spaced texts ++ codes "0")
zero_ends [] all = zero_word.no_end
zero_ends (t ∷ ts) all =
    subst (λ x. All (λ b. is_line_end b ≡ false) x) (sym (spaced_more t ts (codes "0")))
    (All-append (λ b. is_line_end b ≡ false) t (32 ∷ (spaced ts ++ codes "0")) all.0.no_end
    (All-cons (λ b. is_line_end b ≡ false) 32 (spaced ts ++ codes "0") refl (zero_ends ts all.1)))

-- the line of a text that stands at a place
abbrev pub placed_line : ℕ → ℕ → List ℕ → LineText
placed_line number at text = record { number = number; span = record { start = at; end = at + length text }; text = text }

abbrev pub zero_text : List (List ℕ) → List ℕ
zero_text texts = spaced texts ++ codes "0"

-- a line of such fields is the first line
pub first_zero_line : (number at : ℕ) (texts : List (List ℕ)) (rest : List ℕ) → AreWords texts
    → lines_from number at (zero_line texts ++ rest)
    ≡ placed_line number at (zero_text texts) ∷ lines_from (number + 1) (at + length (zero_text texts) + 1) rest
first_zero_line number at texts rest all =
    ap (lines_from number at)
    (append_assoc (spaced texts) (codes "0\n") rest ∙ sym (append_assoc (spaced texts) (codes "0") (10 ∷ rest)))
    ∙ lines_from-more number at (zero_text texts) rest (zero_ends texts all)
