-- Lists of literals that say a word of numbers.
use Rattle.std.proofs.Common.{◌≡◌, ℕ, ◌+◌, ◌<◌, Bool, not, List, [], ◌∷◌, ◌++◌, length, get_or, map, take}
use Rattle.std.proofs.Common.{ap, sym, ◌∙◌, append_assoc}
use Rattle.std.specs.Prelude.{◌↔◌, Contains, IsTrue}
use Rattle.std.specs.Cmp.{both_ways}
use Rattle.std.proofs.lemmas.List.{map-append, take_more}
use Rattle.certificate_claims.specs.SetLiterals.{has}
use Rattle.certificate_claims.proofs.SetTests.{has_from, has_gives}

-- the test of a member is its fact
pub tests_member : (s : List ℕ) (x : ℕ) (r : Bool) → (IsTrue r ↔ Contains s x) → not r ≡ not (has s x)
tests_member s x r h = ap not (both_ways r (has s x) (λ e. has_from s x (h.0 e)) (λ e. h.1 (has_gives s x e)))

-- one literal more
pub mapped_more : {A B : Type 0} (f : A → B) (start : List B) (xs : List A) (old new : List B) (i : ℕ) (d : A)
    → i < length xs → old ≡ start ++ map f (take i xs) → new ≡ old ++ f (get_or xs i d) ∷ []
    → new ≡ start ++ map f (take (i + 1) xs)
mapped_more f start xs old new i d lt so_far e =
    e ∙ (ap (λ ys. ys ++ f (get_or xs i d) ∷ []) so_far
    ∙ (append_assoc start (map f (take i xs)) (f (get_or xs i d) ∷ [])
    ∙ (ap (λ ys. start ++ ys) (sym (map-append f (take i xs) (get_or xs i d ∷ [])))
    ∙ ap (λ ys. start ++ map f ys) (sym (take_more xs i d lt)))))
