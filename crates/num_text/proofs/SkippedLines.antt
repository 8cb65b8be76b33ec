-- A line's first byte that is no blank says whether the line is skipped.
use Rattle.std.proofs.Common.{◌≡◌, ℕ, ◌+◌, ◌<◌, ◌≤◌, ◌==◌, true, false, not, List, [], ◌∷◌, length, take, drop, get_or, map, refl, sym, ap, subst, ◌∙◌, arith, length-drop, get_or-drop}
use Rattle.std.specs.List.{position_or_len}
use Rattle.std.proofs.lemmas.List.{drop_all, get_or-take}
use Rattle.std.proofs.lemmas.List.Sums.{passes_at_first}
use Rattle.std.proofs.lemmas.Bool.{not-true}
use Rattle.num_text.specs.Cuts.{is_blank, fields_from, fields_of, field_texts}
use Rattle.num_text.specs.Lines.{are_skipped}
use Rattle.num_text.proofs.CutLemmas.{fields_from-blanks, fields_from-nil, fields_from-first, begins_with_field, field_texts-fields_of}

-- a text's fields are those of what follows its blanks
fields_behind_blanks : (text : List ℕ) (start : ℕ) → start ≡ position_or_len (λ byte. not (is_blank byte)) text
    → fields_of text ≡ fields_from (0 + start) (drop start text)
unfolding fields_of
fields_behind_blanks text start is =
    fields_from-blanks 0 text ∙ ap (λ m. fields_from (0 + m) (drop m text)) (sym is)

-- a text of blanks alone is skipped
pub skipped_blanks : (text : List ℕ) (start : ℕ) → start ≡ position_or_len (λ byte. not (is_blank byte)) text
    → length text ≤ start → are_skipped (field_texts text) ≡ true
skipped_blanks text start is behind =
    let none : fields_of text ≡ [] = fields_behind_blanks text start is
    ∙ ap (fields_from (0 + start)) (drop_all start text behind) ∙ fields_from-nil (0 + start) in
    ap are_skipped (sym (field_texts-fields_of text) ∙ ap (λ fields. map (λ f. f.text) fields) none)

-- the first byte of the first field says whether a text is skipped
pub skipped_byte : (text : List ℕ) (start : ℕ) → start ≡ position_or_len (λ byte. not (is_blank byte)) text
    → start < length text → are_skipped (field_texts text) ≡ (get_or text start 0 == 35)
skipped_byte text start is within =
    let rest : List ℕ = drop start text in
    let n = position_or_len is_blank rest in
    let at : get_or rest 0 0 ≡ get_or text start 0 = get_or-drop start text 0 0
    ∙ ap (λ i. get_or text i 0) (omega arith) in
    let passes : not (is_blank (get_or text start 0)) ≡ true =
    ap (λ m. not (is_blank (get_or text m 0))) is
    ∙ passes_at_first (λ byte. not (is_blank byte)) text 0 (subst (λ m. m < length text) is within) in
    let none : is_blank (get_or rest 0 0) ≡ false = ap is_blank at ∙ not-true _ passes in
    let some : 0 < n = begins_with_field rest (omega (arith, length-drop start text)) none in
    let cut = fields_behind_blanks text start is ∙ fields_from-first (0 + start) rest n some refl in
    ap are_skipped (sym (field_texts-fields_of text) ∙ ap (λ fields. map (λ f. f.text) fields) cut)
    ∙ ap (λ byte. byte == 35) (get_or-take n rest 0 0 some ∙ at)
