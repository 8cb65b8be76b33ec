-- Literals of the numbers that a set lacks.
use Rattle.std.proofs.Common.{◌≡◌, ℕ, ◌+◌, ◌<◌, Bool, true, false, List, [], ◌∷◌, ◌++◌, length, get_or, filter, take, ap, sym, ◌∙◌}
use Rattle.std.proofs.lemmas.List.{append-nil, take_more}
use Rattle.std.proofs.lemmas.List.Elements.{filter-append}
use Rattle.certificate_claims.proofs.SetTests.{one_kept, one_lost}

-- a number is kept, or passed over
pub kept_one : (p : ℕ → Bool) (x : ℕ) (old new : List ℕ) → p x ≡ true → new ≡ old ++ x ∷ []
    → new ≡ old ++ filter p (x ∷ [])
kept_one p x old new pass e = e ∙ ap (λ ys. old ++ ys) (sym (one_kept p x pass))

pub passed_one : (p : ℕ → Bool) (x : ℕ) (old : List ℕ) → p x ≡ false → old ≡ old ++ filter p (x ∷ [])
passed_one p x old fail = sym (append-nil old) ∙ ap (λ ys. old ++ ys) (sym (one_lost p x fail))

-- one number more
pub filtered_more : (p : ℕ → Bool) (xs old new : List ℕ) (i : ℕ) → i < length xs → old ≡ filter p (take i xs)
    → new ≡ old ++ filter p (get_or xs i 0 ∷ []) → new ≡ filter p (take (i + 1) xs)
filtered_more p xs old new i lt so_far e =
    e ∙ (ap (λ ys. ys ++ filter p (get_or xs i 0 ∷ [])) so_far
    ∙ (sym (filter-append p (take i xs) (get_or xs i 0 ∷ [])) ∙ ap (λ ys. filter p ys) (sym (take_more xs i 0 lt))))
