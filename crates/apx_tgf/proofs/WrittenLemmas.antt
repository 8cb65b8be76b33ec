-- The lines of names that are written.
use Rattle.std.proofs.Common.{◌≡◌, ℕ, ◌+◌, ◌<◌, List, [], ◌∷◌, ◌++◌, length, take, get_or, refl, sym, ap, subst, ◌∙◌, arith}
use Rattle.std.proofs.lemmas.List.{append_assoc, append-nil, take_more, length-take-le}
use Rattle.std.proofs.lemmas.Option.{get_or_from_slice_get}
use Rattle.apx_tgf.specs.Names.{IsNumberOf}
use Rattle.apx_tgf.specs.Written.{name_line, name_lines}

name_lines-push : (k : ℕ) (names : List (List ℕ)) (name : List ℕ)
    → name_lines k (names ++ name ∷ []) ≡ name_lines k names ++ name_line (k + length names) name
unfolding name_lines
name_lines-push k [] name = append-nil (name_line k name) ∙ ap (λ m. name_line m name) (omega arith)
name_lines-push k (x ∷ names) name =
    ap (λ text. name_line k x ++ text) (name_lines-push (k + 1) names name)
    ∙ sym (append_assoc (name_line k x) (name_lines (k + 1) names) (name_line (k + 1 + length names) name))
    ∙ ap (λ m. (name_line k x ++ name_lines (k + 1) names) ++ name_line m name) (omega arith)

pub no_names_written : name_lines 1 [] ≡ []
unfolding name_lines
no_names_written = refl

-- the line of one more name
pub name_written : (names : List (List ℕ)) (i : ℕ) (name old new : List ℕ) → old ≡ name_lines 1 (take i names)
    → i < length names → IsNumberOf names name (i + 1) → new ≡ old ++ name_line (i + 1) name
    → new ≡ name_lines 1 (take (i + 1) names)
name_written names i name old new before within is line =
    let index : is.index ≡ i = let at = is.number_is in omega arith in
    let there : get_or names i name ≡ name = subst (λ k. get_or names k name ≡ name) index
    (get_or_from_slice_get names is.index name name is.there) in
    let long : length (take i names) ≡ i = length-take-le i names (omega arith) in
    line ∙ ap (λ text. text ++ name_line (i + 1) name) before
    ∙ ap (λ m. name_lines 1 (take i names) ++ name_line m name) (omega (arith, long))
    ∙ sym (name_lines-push 1 (take i names) name)
    ∙ ap (λ ns. name_lines 1 ns) (ap (λ x. take i names ++ x ∷ []) (sym there) ∙ sym (take_more names i name within))
