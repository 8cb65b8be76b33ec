-- Fields that are digits.
use Rattle.std.proofs.Common.{◌≡◌, ℕ, ◌<◌, ◌==◌, true, false, not, List, [], ◌∷◌, ◌++◌, length, get_or, filter, refl, ap, ◌∙◌, arith}
use Rattle.std.specs.Prelude.{All}
use Rattle.std.proofs.lemmas.List.Splits.{slice_split_none, slice_split_at}
use Rattle.std.proofs.lemmas.Bool.{cond-true, ne_eqb, not_from_false}
use Rattle.num_text.specs.Cuts.{is_line_end, is_blank, field_texts}
use Rattle.num_text.specs.Number.{IsDigit}
use Rattle.num_text.specs.Lines.{are_skipped}

-- ---- digits are no blanks and no ends

pub digit_no_blank : (byte : ℕ) → IsDigit byte → is_blank byte ≡ false
digit_no_blank byte h =
    let low = h.low in
    let space = ne_eqb byte 32 (λ e. omega arith) in
    let tab = ne_eqb byte 9 (λ e. omega arith) in
    let cr = ne_eqb byte 13 (λ e. omega arith) in
    rw (space, tab, cr) refl

pub no_blanks : (ds : List ℕ) → All IsDigit ds → All (λ byte. is_blank byte ≡ false) ds
no_blanks ds all = λ k d within. digit_no_blank (get_or ds k d) (all k d within)

pub digit_no_end : (byte : ℕ) → IsDigit byte → is_line_end byte ≡ false
digit_no_end byte h = let low = h.low in ne_eqb byte 10 (λ e. omega arith)

-- ---- the fields of two numbers

pub not_empty : (piece : List ℕ) → 0 < length piece → not (length piece == 0) ≡ true
not_empty piece some = not_from_false _ (ne_eqb (length piece) 0 (λ z. omega arith))

pub two_texts : (a b : List ℕ) → All IsDigit a → All IsDigit b → 0 < length a → 0 < length b
    → field_texts (a ++ 32 ∷ b) ≡ a ∷ b ∷ []
unfolding field_texts
two_texts a b da db some_a some_b =
    ap (λ pieces. filter (λ piece. not (length piece == 0)) pieces)
    (slice_split_at is_blank a 32 b (no_blanks a da) refl
    ∙ ap (λ left. a ∷ left) (slice_split_none is_blank b (no_blanks b db)))
    ∙ cond-true _ _ _ (not_empty a some_a) ∙ ap (λ left. a ∷ left) (cond-true _ _ _ (not_empty b some_b))

-- a line that begins with digits is not skipped
pub digits_say : (a : List ℕ) (more : List (List ℕ)) → All IsDigit a → 0 < length a → are_skipped (a ∷ more) ≡ false
digits_say a more digits some =
    let first = digits 0 0 some in
    let low = first.low in
    ne_eqb (get_or a 0 0) 35 (λ e. omega arith)

pub keeps_field : (piece : List ℕ) (more : List (List ℕ)) → 0 < length piece
    → filter (λ p. not (length p == 0)) (piece ∷ more) ≡ piece ∷ filter (λ p. not (length p == 0)) more
keeps_field piece more some = cond-true _ _ _ (not_from_false _ (ne_eqb (length piece) 0 (λ e. omega arith)))

-- digits are no ends of lines
pub no_ends : (ds : List ℕ) → All IsDigit ds → All (λ byte. is_line_end byte ≡ false) ds
no_ends ds all = λ k d within. digit_no_end (get_or ds k d) (all k d within)
