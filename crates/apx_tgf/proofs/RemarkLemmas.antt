-- The first byte of a line that is no blank, and whether it begins a remark.
use Rattle.std.proofs.Common.{◌≡◌, ℕ, zero, suc, ◌+◌, ◌<◌, ◌≤◌, ◌==◌, Bool, true, false, not, List, [], ◌∷◌, length, take, drop, get_or, map, refl, sym, ap, subst, ◌∙◌, arith, length-drop, get_or-drop}
use Rattle.std.specs.Prelude.{◌↔◌, IsTrue}
use Rattle.std.specs.List.{position_or_len}
use Rattle.std.proofs.lemmas.Bool.{eqb-true, eq-eqb, true≢false}
use Rattle.std.proofs.lemmas.List.{drop_all}
use Rattle.std.proofs.lemmas.List.Sums.{passes_at_first}
use Rattle.lists.proofs.TruthValues.{is_denied}
use Rattle.num_text.specs.Cuts.{is_blank, field_texts, fields_from, fields_of}
use Rattle.num_text.proofs.CutLemmas.{fields_from-nil, fields_from-blanks, fields_from-first, begins_with_field, field_texts-fields_of}
use Rattle.apx_tgf.specs.ApxText.{BeginWithPercent}

first_of_taken : (xs : List ℕ) (n : ℕ) → 0 < n → get_or (take n xs) 0 0 ≡ get_or xs 0 0
first_of_taken xs zero some = absurd (omega arith)
first_of_taken [] (suc n) some = refl
first_of_taken (x ∷ xs) (suc n) some = refl

-- the fields of a text stand behind its first blanks
field_texts-blanks : (text : List ℕ) (k : ℕ) → k ≡ position_or_len (λ byte. not (is_blank byte)) text
    → field_texts text ≡ map (λ f. f.text) (fields_from (0 + k) (drop k text))
unfolding fields_of
field_texts-blanks text k skips =
    sym (field_texts-fields_of text)
    ∙ ap (λ fs. map (λ f. f.text) fs) (fields_from-blanks 0 text
    ∙ ap (λ m. fields_from (0 + m) (drop m text)) (sym skips))

pub no_percent : (text : List ℕ) (k : ℕ) → k ≡ position_or_len (λ byte. not (is_blank byte)) text → length text ≤ k
    → IsTrue false ↔ BeginWithPercent (field_texts text)
no_percent text k skips past =
    let fields : field_texts text ≡ [] = field_texts-blanks text k skips
    ∙ ap (λ fs. map (λ f. f.text) fs)
    (ap (λ left. fields_from (0 + k) left) (drop_all k text past) ∙ fields_from-nil (0 + k)) in
    (λ never. absurd (true≢false (sym never)), λ begins. absurd (subst BeginWithPercent fields begins))

pub percent_first : (text : List ℕ) (k : ℕ) → k ≡ position_or_len (λ byte. not (is_blank byte)) text
    → k < length text → IsTrue (get_or text k 0 == 37) ↔ BeginWithPercent (field_texts text)
percent_first text k skips within =
    let p : ℕ → Bool = λ byte. not (is_blank byte) in
    let stops : not (is_blank (get_or text k 0)) ≡ true
    = subst (λ m. not (is_blank (get_or text m 0)) ≡ true) (sym skips)
    (passes_at_first p text 0 (subst (λ m. m < length text) skips within)) in
    let here : get_or (drop k text) 0 0 ≡ get_or text k 0
    = get_or-drop k text 0 0 ∙ ap (λ m. get_or text m 0) (omega arith) in
    let none : is_blank (get_or (drop k text) 0 0) ≡ false = ap is_blank here ∙ is_denied _ stops in
    let n : ℕ = position_or_len is_blank (drop k text) in
    let some : 0 < n = begins_with_field (drop k text) (omega (arith, length-drop k text)) none in
    let fields : field_texts text
    ≡ take n (drop k text) ∷ map (λ f. f.text) (fields_from (0 + k + n) (drop n (drop k text)))
    = field_texts-blanks text k skips
    ∙ ap (λ fs. map (λ f. f.text) fs) (fields_from-first (0 + k) (drop k text) n some refl) in
    let first : get_or (take n (drop k text)) 0 0 ≡ get_or text k 0 = first_of_taken (drop k text) n some ∙ here in (
      λ percent. subst BeginWithPercent (sym fields) (first ∙ eqb-true (get_or text k 0) 37 percent),
      λ begins. eq-eqb (get_or text k 0) 37 (sym first ∙ subst BeginWithPercent fields begins),
    )
