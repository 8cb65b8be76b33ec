-- How the first line and the first field are cut off.
use Rattle.std.proofs.Common.{◌≡◌, ℕ, zero, suc, ◌+◌, ◌-◌, ◌<◌, ◌≤◌, ◌==◌, Bool, true, false, not, cond, List, [], ◌∷◌, length, take, drop, get_or, filter, map, refl, sym, ap, subst, ◌∙◌, inl, inr, arith, length-drop, add-one, add-zero, drop-cons, get_or-drop}
use Rattle.std.specs.Prelude.{Some, None, unwrap_or, nat_lt, slice_index_or, All, AllPairs}
use Rattle.std.specs.List.{slice_split, position, position_or_len, after_first}
use Rattle.std.proofs.lemmas.List.{length-take-le, take_all, drop_all, drop-drop}
use Rattle.std.proofs.lemmas.List.Splits.{slice_split-cons_yes, slice_split_none, slice_split_first, length-slice_split}
use Rattle.std.proofs.lemmas.List.Sums.{prefix_len-le-length, fails_before_first, passes_at_first}
use Rattle.std.proofs.lemmas.List.Elements.{All-nil, All-cons, All-head, All-tail, All-filter}
use Rattle.std.proofs.lemmas.List.Kept.{AllPairs-cons, AllPairs-filter}
use Rattle.std.proofs.lemmas.Bool.{cases_Bool, cases_lt, ltb-false, ne_eqb, cond-true, cond-false, not_from_true, not_from_false, not-true}
use Rattle.num_text.specs.Cuts.{is_line_end, is_blank, FieldText, LineText, without_empty_last, line_texts, placed, numbered, lines_from, lines_of, field_texts, fields_from, fields_of, IsPartAt}
use Rattle.num_text.specs.declared.span.Span.{Span}

-- ---- a cut of any kind

unwrap_or-cond : (found : Bool) (place end : ℕ) → (found ≡ false → end ≡ place)
    → unwrap_or (cond found (Some place) None) end ≡ place
unwrap_or-cond true place end h = refl
unwrap_or-cond false place end h = h refl

pub position_or_len-le : {X : Type 0} (p : X → Bool) (xs : List X) → position_or_len p xs ≤ length xs
position_or_len-le p xs = prefix_len-le-length (λ x. not (p x)) xs

-- the first place, or the length, from the answer of `position`
pub unwrap_or-position : {X : Type 0} (p : X → Bool) (xs : List X)
    → unwrap_or (position p xs) (length xs) ≡ position_or_len p xs
unwrap_or-position p xs =
    let within = position_or_len-le p xs in
    unwrap_or-cond (nat_lt (position_or_len p xs) (length xs)) (position_or_len p xs) (length xs)
    (λ no. let above = ltb-false (position_or_len p xs) (length xs) no in omega arith)

drop_next : (xs : List ℕ) (n : ℕ) → n < length xs → drop n xs ≡ get_or xs n 0 ∷ drop (n + 1) xs
drop_next xs n h = rw (add-one, drop-cons xs n 0) refl

-- where no element passes, the list is the one piece
slice_split_whole : {X : Type 0} (p : X → Bool) (xs : List X) → length xs ≤ position_or_len p xs
    → slice_split p xs ≡ xs ∷ []
slice_split_whole p xs h = slice_split_none p xs (λ k d below. fails_before_first p xs k d (omega arith))

-- ---- lines

without_empty_last-cons : (piece : List ℕ) (more : List (List ℕ)) → 0 < length more
    → without_empty_last (piece ∷ more) ≡ piece ∷ without_empty_last more
unfolding without_empty_last
without_empty_last-cons piece [] h = absurd (omega arith)
without_empty_last-cons piece (next ∷ more) h = refl

without_empty_last-one : (piece : List ℕ) → 0 < length piece → without_empty_last (piece ∷ []) ≡ piece ∷ []
unfolding without_empty_last
without_empty_last-one [] h = absurd (omega arith)
without_empty_last-one (x ∷ xs) h = let some : (length (x ∷ xs) == 0)
    ≡ false = ne_eqb (length (x ∷ xs)) 0 (λ e. omega arith) in cond-false _ _ _ some

-- no byte is no line
line_texts-nil : line_texts [] ≡ []
unfolding line_texts without_empty_last
line_texts-nil = refl

pub lines_from-nil : (number start : ℕ) → lines_from number start [] ≡ []
unfolding lines_from placed numbered
lines_from-nil number start = ap (λ ts. numbered number (placed start ts)) line_texts-nil

-- the first line ends before the first LF
line_texts-first : (bytes : List ℕ) → 0 < length bytes
    → line_texts bytes ≡ take (position_or_len is_line_end bytes) bytes
    ∷ line_texts (drop (position_or_len is_line_end bytes + 1) bytes)
unfolding line_texts
line_texts-first bytes some = elim (cases_lt (position_or_len is_line_end bytes) (length bytes)) [
  | inl found ↦
      ap without_empty_last (slice_split_first is_line_end bytes 0 found)
      ∙ without_empty_last-cons _ _
      (let n = length-slice_split is_line_end (after_first is_line_end bytes) in omega arith)
  | inr none ↦
      ap without_empty_last (slice_split_whole is_line_end bytes none) ∙ without_empty_last-one bytes some
      ∙ ap (λ piece. piece ∷ []) (sym (take_all (position_or_len is_line_end bytes) bytes none))
      ∙ ap (λ left. take (position_or_len is_line_end bytes) bytes ∷ left)
      (sym (ap line_texts (drop_all (position_or_len is_line_end bytes + 1) bytes (omega arith))
      ∙ line_texts-nil))
]

numbered-cons : (number start : ℕ) (piece : List ℕ) (more : List (List ℕ)) (n : ℕ) → length piece ≡ n
    → numbered number (placed start (piece ∷ more))
    ≡ record { number = number; span = record { start = start; end = start + n }; text = piece }
    ∷ numbered (number + 1) (placed (start + (n + 1)) more)
unfolding placed numbered
numbered-cons number start piece more n e =
    let after : start + length piece + 1 ≡ start + (n + 1) = omega arith in
    ap (λ m. record { number = number; span = record { start = start; end = start + m }; text = piece }
    ∷ numbered (number + 1) (placed (start + length piece + 1) more)) e
    ∙ ap (λ m. record { number = number; span = record { start = start; end = start + n }; text = piece }
    ∷ numbered (number + 1) (placed m more)) after

-- the first line of some bytes, and the lines after it
pub lines_from-first : (number start : ℕ) (bytes : List ℕ) (n : ℕ) → 0 < length bytes
    → n ≡ position_or_len is_line_end bytes
    → lines_from number start bytes
    ≡ record { number = number; span = record { start = start; end = start + n }; text = take n bytes }
    ∷ lines_from (number + 1) (start + (n + 1)) (drop (n + 1) bytes)
unfolding lines_from
lines_from-first number start bytes n some e =
    let first : line_texts bytes
    ≡ take n bytes ∷ line_texts (drop (n + 1) bytes) = subst (λ m. line_texts bytes
    ≡ take m bytes ∷ line_texts (drop (m + 1) bytes)) (sym e) (line_texts-first bytes some) in
    let within = position_or_len-le is_line_end bytes in
    ap (λ ts. numbered number (placed start ts)) first
    ∙ numbered-cons number start (take n bytes) (line_texts (drop (n + 1) bytes)) n
    (length-take-le n bytes (omega arith))

-- ---- fields

-- a text begins with a blank
fields_from-blank : (start byte : ℕ) (text : List ℕ) → is_blank byte ≡ true
    → fields_from start (byte ∷ text) ≡ fields_from (start + 1) text
unfolding fields_from placed
fields_from-blank start byte text blank =
    let after : start + 0 + 1 ≡ start + 1 = omega arith in
    ap (λ ps. filter (λ field. not (length field.text == 0)) (placed start ps))
    (slice_split-cons_yes is_blank byte text blank)
    ∙ ap (λ m. filter (λ field. not (length field.text == 0)) (placed m (slice_split is_blank text))) after

pub fields_from-nil : (start : ℕ) → fields_from start [] ≡ []
unfolding fields_from placed
fields_from-nil start = refl

-- the blanks that a text begins with
pub fields_from-blanks : (start : ℕ) (text : List ℕ)
    → fields_from start text ≡ fields_from (start + position_or_len (λ byte. not (is_blank byte)) text)
    (drop (position_or_len (λ byte. not (is_blank byte)) text) text)
fields_from-blanks start [] = ap (λ m. fields_from m []) (omega arith)
fields_from-blanks start (byte ∷ text) = elim (cases_Bool (is_blank byte)) [
  | inl blank ↦
      let skipped : position_or_len (λ byte. not (is_blank byte)) (byte ∷ text)
      ≡ 1 + position_or_len (λ byte. not (is_blank byte)) text = cond-true _ _ _
      (not_from_false _ (not_from_true _ blank)) in
      let one : 1 + position_or_len (λ byte. not (is_blank byte)) text
      ≡ suc (position_or_len (λ byte. not (is_blank byte)) text) = omega arith in
      let after : start + 1 + position_or_len (λ byte. not (is_blank byte)) text
      ≡ start + suc (position_or_len (λ byte. not (is_blank byte)) text) = omega arith in
      fields_from-blank start byte text blank ∙ fields_from-blanks (start + 1) text
      ∙ ap (λ m. fields_from m (drop (position_or_len (λ byte. not (is_blank byte)) text) text)) after
      ∙ ap (λ m. fields_from (start + m) (drop m (byte ∷ text))) (sym (skipped ∙ one))
  | inr none ↦
      let skipped : position_or_len (λ byte. not (is_blank byte)) (byte ∷ text)
      ≡ 0 = cond-false _ _ _ (not_from_true _ (not_from_false _ none)) in
      ap (λ m. fields_from m (byte ∷ text)) (omega arith)
      ∙ ap (λ m. fields_from (start + m) (drop m (byte ∷ text))) (sym skipped)
]

fields-cons : (start : ℕ) (piece : List ℕ) (more : List (List ℕ)) (n : ℕ) → 0 < n → length piece ≡ n
    → filter (λ field. not (length field.text == 0)) (placed start (piece ∷ more))
    ≡ record { span = record { start = start; end = start + n }; text = piece }
    ∷ filter (λ field. not (length field.text == 0)) (placed (start + n + 1) more)
unfolding placed
fields-cons start piece more n some e =
    let kept : not (length piece == 0)
    ≡ true = not_from_false _ (ne_eqb (length piece) 0 (λ z. omega arith)) in
    cond-true _ _ _ kept ∙ ap (λ m. record { span = record { start = start; end = start + m }; text = piece }
    ∷ filter (λ field. not (length field.text == 0)) (placed (start + m + 1) more)) e

-- after a field comes a blank or nothing
fields_from-after : (start : ℕ) (text : List ℕ) (n : ℕ) → n ≡ position_or_len is_blank text → n < length text
    → fields_from (start + n) (drop n text) ≡ fields_from (start + n + 1) (drop (n + 1) text)
fields_from-after start text n e within =
    let blank : is_blank (get_or text n 0)
    ≡ true = subst (λ m. is_blank (get_or text m 0) ≡ true) (sym e)
    (passes_at_first is_blank text 0 (subst (λ m. m < length text) e within)) in
    ap (λ left. fields_from (start + n) left) (drop_next text n within)
    ∙ fields_from-blank (start + n) (get_or text n 0) (drop (n + 1) text) blank

-- the first field of a text that begins with one
pub fields_from-first : (start : ℕ) (text : List ℕ) (n : ℕ) → 0 < n → n ≡ position_or_len is_blank text
    → fields_from start text ≡ record { span = record { start = start; end = start + n }; text = take n text }
    ∷ fields_from (start + n) (drop n text)
unfolding fields_from placed
fields_from-first start text n some e = elim (cases_lt n (length text)) [
  | inl within ↦
      let cut : slice_split is_blank text
      ≡ take n text ∷ slice_split is_blank (drop (n + 1) text) = subst (λ m. slice_split is_blank text
      ≡ take m text ∷ slice_split is_blank (drop (m + 1) text)) (sym e)
      (slice_split_first is_blank text 0 (subst (λ m. m < length text) e within)) in
      ap (λ ps. filter (λ field. not (length field.text == 0)) (placed start ps)) cut
      ∙ fields-cons start (take n text) (slice_split is_blank (drop (n + 1) text)) n some
      (length-take-le n text (omega arith))
      ∙ ap (λ left. record { span = record { start = start; end = start + n }; text = take n text } ∷ left)
      (sym (fields_from-after start text n e within))
  | inr above ↦
      let upto = position_or_len-le is_blank text in
      let whole : slice_split is_blank text ≡ text ∷ [] = slice_split_whole is_blank text (omega arith) in
      ap (λ ps. filter (λ field. not (length field.text == 0)) (placed start ps)) whole
      ∙ fields-cons start text [] n some (omega arith)
      ∙ ap (λ piece. record { span = record { start = start; end = start + n }; text = piece } ∷ [])
      (sym (take_all n text above))
      ∙ ap (λ left. record { span = record { start = start; end = start + n }; text = take n text } ∷ left)
      (sym (ap (λ left. fields_from (start + n) left) (drop_all n text above)
      ∙ fields_from-nil (start + n)))
]

-- ---- what `next` needs, where the rest is `&bytes[start..]`

pub rest_whole : (start : ℕ) (bytes : List ℕ) → take (length bytes - start) (drop start bytes) ≡ drop start bytes
rest_whole start bytes = take_all (length bytes - start) (drop start bytes)
    (omega (arith, length-drop start bytes))

pub rest_length : (start : ℕ) (bytes : List ℕ)
    → length (take (length bytes - start) (drop start bytes)) ≡ length bytes - start
rest_length start bytes = ap length (rest_whole start bytes) ∙ length-drop start bytes

pub first_line_within : (start : ℕ) (bytes : List ℕ) (n : ℕ)
    → n ≡ position_or_len is_line_end (take (length bytes - start) (drop start bytes)) → start ≤ length bytes
    → start + n ≤ length bytes
first_line_within start bytes n e h =
    let at : n ≡ position_or_len is_line_end (drop start bytes) = e
    ∙ ap (λ rest. position_or_len is_line_end rest) (rest_whole start bytes) in
    omega (arith, position_or_len-le is_line_end (drop start bytes), length-drop start bytes)

pub first_line : (number start : ℕ) (bytes : List ℕ) (n : ℕ) → start < length bytes
    → n ≡ position_or_len is_line_end (take (length bytes - start) (drop start bytes))
    → lines_from number start (drop start bytes)
    ≡ record {
      number = number;
      span = record { start = start; end = start + n };
      text = take n (take (length bytes - start) (drop start bytes));
    }
    ∷ lines_from (number + 1) (start + (n + 1)) (drop (start + (n + 1)) bytes)
first_line number start bytes n h e =
    let at : n ≡ position_or_len is_line_end (drop start bytes) = e
    ∙ ap (λ rest. position_or_len is_line_end rest) (rest_whole start bytes) in
    lines_from-first number start (drop start bytes) n (omega (arith, length-drop start bytes)) at
    ∙ ap (λ rest. record {
      number = number;
      span = record { start = start; end = start + n };
      text = take n rest;
    } ∷ lines_from (number + 1) (start + (n + 1)) (drop (n + 1) (drop start bytes)))
    (sym (rest_whole start bytes))
    ∙ ap (λ left. record {
      number = number;
      span = record { start = start; end = start + n };
      text = take n (take (length bytes - start) (drop start bytes));
    }
    ∷ lines_from (number + 1) (start + (n + 1)) left) (drop-drop (n + 1) start bytes)

pub no_line : (number start : ℕ) (bytes : List ℕ) → length bytes ≤ start
    → lines_from number start (drop start bytes) ≡ []
no_line number start bytes h = ap (λ rest. lines_from number start rest) (drop_all start bytes h)
    ∙ lines_from-nil number start

-- the field that is left first stands after the blanks
pub blanks_within : (start : ℕ) (text : List ℕ) (k : ℕ)
    → k ≡ position_or_len (λ byte. not (is_blank byte)) (take (length text - start) (drop start text))
    → start ≤ length text → start + k ≤ length text
blanks_within start text k e h =
    let at : k ≡ position_or_len (λ byte. not (is_blank byte)) (drop start text) = e
    ∙ ap (λ left. position_or_len (λ byte. not (is_blank byte)) left) (rest_whole start text) in
    omega (arith, position_or_len-le (λ byte. not (is_blank byte)) (drop start text), length-drop start text)

pub after_blanks : (start : ℕ) (text : List ℕ) (k : ℕ)
    → k ≡ position_or_len (λ byte. not (is_blank byte)) (take (length text - start) (drop start text))
    → fields_from start (drop start text) ≡ fields_from (start + k) (drop (start + k) text)
after_blanks start text k e =
    let at : k ≡ position_or_len (λ byte. not (is_blank byte)) (drop start text) = e
    ∙ ap (λ left. position_or_len (λ byte. not (is_blank byte)) left) (rest_whole start text) in
    fields_from-blanks start (drop start text)
    ∙ ap (λ m. fields_from (start + m) (drop m (drop start text))) (sym at)
    ∙ ap (λ left. fields_from (start + k) left) (drop-drop k start text)

pub no_field : (start : ℕ) (text : List ℕ) (k : ℕ)
    → k ≡ position_or_len (λ byte. not (is_blank byte)) (take (length text - start) (drop start text))
    → length text ≤ start + k → fields_from start (drop start text) ≡ []
no_field start text k e h = after_blanks start text k e
    ∙ ap (λ left. fields_from (start + k) left) (drop_all (start + k) text h) ∙ fields_from-nil (start + k)

pub begins_with_field : (text : List ℕ) → 0 < length text → is_blank (get_or text 0 0) ≡ false
    → 0 < position_or_len is_blank text
begins_with_field [] some none = absurd (omega arith)
begins_with_field (byte ∷ text) some none = let e : position_or_len is_blank (byte ∷ text)
    ≡ 1 + position_or_len is_blank text = cond-true _ _ _ (not_from_false _ none) in omega arith

pub first_field_within : (start : ℕ) (text : List ℕ) (n : ℕ)
    → n ≡ position_or_len is_blank (take (length text - start) (drop start text)) → start ≤ length text
    → start + n ≤ length text
first_field_within start text n e h =
    let at : n ≡ position_or_len is_blank (drop start text) = e
    ∙ ap (λ rest. position_or_len is_blank rest) (rest_whole start text) in
    omega (arith, position_or_len-le is_blank (drop start text), length-drop start text)

pub first_field : (start : ℕ) (text : List ℕ) (k n : ℕ)
    → k ≡ position_or_len (λ byte. not (is_blank byte)) (take (length text - start) (drop start text))
    → start + k < length text
    → n ≡ position_or_len is_blank (take (length text - (start + k)) (drop (start + k) text))
    → fields_from start (drop start text) ≡ record {
      span = record { start = start + k; end = start + k + n };
      text = take n (take (length text - (start + k)) (drop (start + k) text));
    }
    ∷ fields_from (start + k + n) (drop (start + k + n) text)
first_field start text k n skips within e =
    let k_is : k ≡ position_or_len (λ byte. not (is_blank byte)) (drop start text) = skips
    ∙ ap (λ left. position_or_len (λ byte. not (is_blank byte)) left) (rest_whole start text) in
    let at : n ≡ position_or_len is_blank (drop (start + k) text) = e
    ∙ ap (λ rest. position_or_len is_blank rest) (rest_whole (start + k) text) in
    let inside : position_or_len (λ byte. not (is_blank byte)) (drop start text) < length
    (drop start text) = omega (arith, length-drop start text) in
    let stops : not (is_blank (get_or (drop start text) k 0))
    ≡ true = subst (λ m. not (is_blank (get_or (drop start text) m 0)) ≡ true) (sym k_is)
    (passes_at_first (λ byte. not (is_blank byte)) (drop start text) 0 inside) in
    let same : get_or (drop start text) k 0
    ≡ get_or (drop (start + k) text) 0 0 = simp (get_or-drop, add-zero) in
    let none : is_blank (get_or (drop (start + k) text) 0 0) ≡ false = ap is_blank (sym same)
    ∙ not-true _ stops in
    let some : 0 < n = subst (λ m. 0 < m) (sym at)
    (begins_with_field (drop (start + k) text) (omega (arith, length-drop (start + k) text)) none) in
    after_blanks start text k skips ∙ fields_from-first (start + k) (drop (start + k) text) n some at
    ∙ ap (λ rest. record { span = record { start = start + k; end = start + k + n }; text = take n rest }
    ∷ fields_from (start + k + n) (drop n (drop (start + k) text))) (sym (rest_whole (start + k) text))
    ∙ ap (λ left. record {
      span = record { start = start + k; end = start + k + n };
      text = take n (take (length text - (start + k)) (drop (start + k) text));
    }
    ∷ fields_from (start + k + n) left) (drop-drop n (start + k) text)

-- ---- what is true of all lines and of all fields

-- the texts of placed pieces are the pieces
map-text-placed : (start : ℕ) (pieces : List (List ℕ)) → map (λ f. f.text) (placed start pieces) ≡ pieces
unfolding placed
map-text-placed start [] = refl
map-text-placed start (piece ∷ more) = ap (λ left. piece ∷ left)
    (map-text-placed (start + length piece + 1) more)

map-text-numbered : (number : ℕ) (fields : List FieldText)
    → map (λ l. l.text) (numbered number fields) ≡ map (λ f. f.text) fields
unfolding numbered
map-text-numbered number [] = refl
map-text-numbered number (f ∷ more) = ap (λ left. f.text ∷ left) (map-text-numbered (number + 1) more)

pub line_texts-lines_of : (bytes : List ℕ) → map (λ l. l.text) (lines_of bytes) ≡ line_texts bytes
unfolding lines_of lines_from
line_texts-lines_of bytes = map-text-numbered 1 (placed 0 (line_texts bytes))
    ∙ map-text-placed 0 (line_texts bytes)

map-text-filter : (fields : List FieldText)
    → map (λ f. f.text) (filter (λ f. not (length f.text == 0)) fields)
    ≡ filter (λ piece. not (length piece == 0)) (map (λ f. f.text) fields)
map-text-filter [] = refl
map-text-filter (f ∷ more) = elim (cases_Bool (not (length f.text == 0))) [
  | inl keeps ↦ ap (λ fs. map (λ f. f.text) fs) (cond-true _ _ _ keeps)
      ∙ ap (λ left. f.text ∷ left) (map-text-filter more) ∙ sym (cond-true _ _ _ keeps)
  | inr drops ↦ ap (λ fs. map (λ f. f.text) fs) (cond-false _ _ _ drops) ∙ map-text-filter more
      ∙ sym (cond-false _ _ _ drops)
]

pub field_texts-fields_of : (text : List ℕ) → map (λ f. f.text) (fields_of text) ≡ field_texts text
unfolding fields_of fields_from field_texts
field_texts-fields_of text = map-text-filter (placed 0 (slice_split is_blank text))
    ∙ ap (λ pieces. filter (λ piece. not (length piece == 0)) pieces)
    (map-text-placed 0 (slice_split is_blank text))

-- the numbers rise by one
number_at : (number : ℕ) (fields : List FieldText) (k : ℕ) (d : LineText)
    → k < length (numbered number fields) → (slice_index_or (numbered number fields) k d).number ≡ number + k
unfolding numbered
number_at number [] k d h = absurd (omega arith)
number_at number (f ∷ more) zero d h = omega arith
number_at number (f ∷ more) (suc k) d h = number_at (number + 1) more k d (omega arith) ∙ (omega arith)

pub numbers-lines_of : (bytes : List ℕ) (k : ℕ) (d : LineText) → k < length (lines_of bytes)
    → (slice_index_or (lines_of bytes) k d).number ≡ k + 1
unfolding lines_of lines_from
numbers-lines_of bytes k d h = number_at 1 (placed 0 (line_texts bytes)) k d h ∙ (omega arith)

-- each piece stands after a place that is before the first
placed-after : (low start : ℕ) (pieces : List (List ℕ)) → low < start
    → All (λ f. low < f.span.start) (placed start pieces)
unfolding placed
placed-after low start [] h = All-nil _
placed-after low start (piece ∷ more) h = All-cons (λ f. low < f.span.start) _ _ h
    (placed-after low (start + length piece + 1) more (omega arith))

placed-rises : (start : ℕ) (pieces : List (List ℕ))
    → AllPairs (λ f g. f.span.end < g.span.start) (placed start pieces)
unfolding placed
placed-rises start [] = λ i j d below within. absurd (omega arith)
placed-rises start (piece ∷ more) = AllPairs-cons (λ f g. f.span.end < g.span.start) _ _
    (placed-after (start + length piece) (start + length piece + 1) more (omega arith))
    (placed-rises (start + length piece + 1) more)

All-numbered : (P : Span → List ℕ → Type 0) (number : ℕ) (fields : List FieldText)
    → All (λ f. P f.span f.text) fields → All (λ l. P l.span l.text) (numbered number fields)
unfolding numbered
All-numbered P number [] all = All-nil _
All-numbered P number (f ∷ more) all = All-cons (λ l. P l.span l.text) _ _
    (All-head (λ f. P f.span f.text) f more all)
    (All-numbered P (number + 1) more (All-tail (λ f. P f.span f.text) f more all))

numbered-rises : (number start : ℕ) (pieces : List (List ℕ))
    → AllPairs (λ l m. l.span.end < m.span.start) (numbered number (placed start pieces))
unfolding placed numbered
numbered-rises number start [] = λ i j d below within. absurd (omega arith)
numbered-rises number start (piece ∷ more) =
    AllPairs-cons (λ l m. l.span.end < m.span.start) _ _
    (All-numbered (λ span text. start + length piece < span.start) (number + 1)
    (placed (start + length piece + 1) more)
    (placed-after (start + length piece) (start + length piece + 1) more (omega arith)))
    (numbered-rises (number + 1) (start + length piece + 1) more)

pub rises-lines_of : (bytes : List ℕ) → AllPairs (λ l m. l.span.end < m.span.start) (lines_of bytes)
unfolding lines_of lines_from
rises-lines_of bytes = numbered-rises 1 0 (line_texts bytes)

pub rises-fields_of : (text : List ℕ) → AllPairs (λ f g. f.span.end < g.span.start) (fields_of text)
unfolding fields_of fields_from
rises-fields_of text = AllPairs-filter (λ f g. f.span.end < g.span.start) (λ f. not (length f.text == 0))
    (placed 0 (slice_split is_blank text)) (placed-rises 0 (slice_split is_blank text))

-- a text that is a part of the source
part_at : (source : List ℕ) (start n : ℕ) (text : List ℕ) → start + n ≤ length source
    → text ≡ take n (drop start source)
    → IsPartAt source (record { start = start; end = start + length text }) text
part_at source start n text within e =
    let n_is : length text ≡ n = ap length e
    ∙ length-take-le n (drop start source) (omega (arith, length-drop start source)) in
    let taken : n ≡ start + length text - start = omega arith in
    record {
      ordered = omega arith;
      within = omega arith;
      text_is = e
          ∙ ap (λ m. take m (drop start source)) taken;
    }

split_parts-step : (p : ℕ → Bool) (source : List ℕ) (start : ℕ) → start ≤ length source
    → ((next : ℕ) → start < next → next ≤ length source
    → All (λ f. IsPartAt source f.span f.text) (placed next (slice_split p (drop next source))))
    → All (λ f. IsPartAt source f.span f.text) (placed start (slice_split p (drop start source)))
unfolding placed
split_parts-step p source start within later =
    let i = position_or_len p (drop start source) in
    let rest = length-drop start source in
    elim (cases_lt (position_or_len p (drop start source)) (length (drop start source))) [
      | inl found ↦
          let cut : slice_split p (drop start source)
          ≡ take i (drop start source)
          ∷ slice_split p (drop (start + (i + 1)) source) = slice_split_first p
          (drop start source) 0 found
          ∙ ap (λ left. take i (drop start source) ∷ slice_split p left)
          (drop-drop (i + 1) start source) in
          let n_is : length (take i (drop start source))
          ≡ i = length-take-le i (drop start source) (omega arith) in
          let after : start + (i + 1) ≡ start + length (take i (drop start source)) + 1 = omega arith in
          subst (λ pieces. All (λ f. IsPartAt source f.span f.text) (placed start pieces)) (sym cut)
          (All-cons (λ f. IsPartAt source f.span f.text) _ _
          (part_at source start i (take i (drop start source)) (omega arith) refl)
          (subst (λ m. All (λ f. IsPartAt source f.span f.text)
          (placed m (slice_split p (drop (start + (i + 1)) source)))) after
          (later (start + (i + 1)) (omega arith) (omega arith))))
      | inr none ↦
          subst (λ pieces. All (λ f. IsPartAt source f.span f.text) (placed start pieces))
          (sym (slice_split_whole p (drop start source) none))
          (All-cons (λ f. IsPartAt source f.span f.text) _ []
          (part_at source start (length (drop start source)) (drop start source) (omega arith)
          (sym (take_all (length (drop start source)) (drop start source) (omega arith))))
          (All-nil (λ f. IsPartAt source f.span f.text)))
    ]

-- each piece of a cut is the part of the source at its span
split_parts : (fuel : ℕ) (p : ℕ → Bool) (source : List ℕ) (start : ℕ) → start ≤ length source
    → length source - start ≤ fuel
    → All (λ f. IsPartAt source f.span f.text) (placed start (slice_split p (drop start source)))
split_parts zero p source start within bound = split_parts-step p source start within
    (λ next below above. absurd (omega arith))
split_parts (suc fuel) p source start within bound = split_parts-step p source start within
    (λ next below above. split_parts fuel p source next above (omega arith))

All-without_empty_last : (P : FieldText → Type 0) (start : ℕ) (pieces : List (List ℕ))
    → All P (placed start pieces) → All P (placed start (without_empty_last pieces))
unfolding placed without_empty_last
All-without_empty_last P start [] all = all
All-without_empty_last P start (piece ∷ []) all = elim (cases_Bool (length piece == 0)) [
  | inl empty ↦ subst (λ pieces. All P (placed start pieces)) (sym (cond-true _ _ _ empty)) (All-nil P)
  | inr some ↦ subst (λ pieces. All P (placed start pieces)) (sym (cond-false _ _ _ some)) all
]
All-without_empty_last P start (piece ∷ next ∷ more) all =
    All-cons P _ _ (All-head P (record {
      span = record { start = start; end = start + length piece };
      text = piece;
    }) (placed (start + length piece + 1) (next ∷ more)) all)
    (All-without_empty_last P (start + length piece + 1) (next ∷ more)
    (All-tail P (record { span = record { start = start; end = start + length piece }; text = piece })
    (placed (start + length piece + 1) (next ∷ more)) all))

pub parts-lines_of : (bytes : List ℕ) → All (λ l. IsPartAt bytes l.span l.text) (lines_of bytes)
unfolding lines_of lines_from line_texts
parts-lines_of bytes = All-numbered (IsPartAt bytes) 1 _
    (All-without_empty_last (λ f. IsPartAt bytes f.span f.text) 0 (slice_split is_line_end bytes)
    (split_parts (length bytes) is_line_end bytes 0 (omega arith) (omega arith)))

pub parts-fields_of : (text : List ℕ) → All (λ f. IsPartAt text f.span f.text) (fields_of text)
unfolding fields_of fields_from
parts-fields_of text = All-filter (λ f. not (length f.text == 0)) (λ f. IsPartAt text f.span f.text)
    (placed 0 (slice_split is_blank text))
    (split_parts (length text) is_blank text 0 (omega arith) (omega arith))
