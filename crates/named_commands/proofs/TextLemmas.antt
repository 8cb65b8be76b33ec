-- The names of numbers, and what is written of sets, one after the other.
use Rattle.std.proofs.Common.{◌≡◌, ◌∙◌, ◌<◌, ◌≤◌, ◌+◌, ℕ, zero, suc, List, [], ◌∷◌, ◌++◌, length, get_or, take, refl, sym}
use Rattle.std.proofs.Common.{ap, subst, arith, append_assoc}
use Rattle.std.specs.List.{flat_map}
use Rattle.std.proofs.lemmas.List.{get_or_default, take_more, append-nil}
use Rattle.std.proofs.lemmas.Grind.{flat_map-append}
use Rattle.std.proofs.lemmas.Option.{slice_get_within, get_or_from_slice_get}
use Rattle.apx_tgf.specs.Names.{IsNumberOf}
use Rattle.named_commands.specs.NamedTexts.{name_at}

-- the name with a number is its name
pub name_found : (names : List (List ℕ)) (name : List ℕ) (n : ℕ) → IsNumberOf names name n → name ≡ name_at names n
name_found names name zero is = let e : 0 ≡ is.index + 1 = is.number_is in absurd (omega arith)
name_found names name (suc k) is =
    let index : is.index ≡ k = let e : suc k ≡ is.index + 1 = is.number_is in omega arith in
    let below : k < length names =
    subst (λ j. j < length names) index (slice_get_within names is.index name is.there) in
    let there : get_or names k name ≡ name =
    subst (λ j. get_or names j name ≡ name) index (get_or_from_slice_get names is.index name name is.there) in
    sym there ∙ get_or_default names k name [] below

beyond : (names : List (List ℕ)) (k : ℕ) → length names ≤ k → get_or names k [] ≡ []
beyond [] zero h = refl
beyond [] (suc k) h = refl
beyond (name ∷ names) zero h = absurd (omega arith)
beyond (name ∷ names) (suc k) h = beyond names k (omega arith)

-- a number past the names has no name
pub name_absent : (names : List (List ℕ)) (n : ℕ) → length names < n → name_at names n ≡ []
name_absent names zero h = refl
name_absent names (suc k) h = beyond names k (omega arith)

-- one line more
pub lines_more : (line : List ℕ → List ℕ) (sets : List (List ℕ)) (i : ℕ) (set start before after : List ℕ)
    → i < length sets → set ≡ get_or sets i set → before ≡ start ++ flat_map line (take i sets)
    → after ≡ before ++ line set → after ≡ start ++ flat_map line (take (i + 1) sets)
lines_more line sets i set start before after h is was now =
    now ∙ ap (λ b. b ++ line set) was
    ∙ append_assoc start (flat_map line (take i sets)) (line set)
    ∙ ap (λ text. start ++ (flat_map line (take i sets) ++ text)) (sym (append-nil (line set)))
    ∙ ap (λ b. start ++ b) (sym (flat_map-append line (take i sets) (set ∷ [])))
    ∙ ap (λ front. start ++ flat_map line front)
    (sym (take_more sets i set h ∙ ap (λ s. take i sets ++ s ∷ []) (sym is)))
