-- Names that are kept as references to their texts.
use Rattle.std.proofs.Common.{◌≡◌, ℕ, ◌+◌, ◌||◌, Bool, true, false, List, [], ◌∷◌, ◌++◌, get_or, map, refl, sym, ap, ◌∙◌, arith}
use Rattle.std.specs.Prelude.{if◌then◌else◌, nat_eq, Contains, Some, position}
use Rattle.std.specs.List.{list_any}
use Rattle.std.specs.Cmp.Lexicographic.{pointwise, bytes_decides}
use Rattle.std.proofs.lemmas.Bool.{cond-true, cond-false, true≢false}
use Rattle.std.proofs.lemmas.List.{map-append, get_or-map, length-map}
use Rattle.std.proofs.lemmas.List.Quantifiers.{position-Some}
use Rattle.std.proofs.lemmas.Option.{slice_get-get_or}
use Rattle.lists.proofs.ListTests.{any_from}
use Rattle.lists.proofs.Images.{image_from}
use Rattle.apx_tgf.specs.Names.{has_name, with_name, IsNumberOf}

any_named : {X : Type 0} (text : X → List ℕ) (name : List ℕ) (keys : List X)
    → has_name (map text keys) name ≡ list_any (λ k. pointwise nat_eq name (text k)) keys
unfolding has_name
any_named text name [] = refl
any_named text name (k ∷ keys) = ap (λ b. pointwise nat_eq name (text k) || b) (any_named text name keys)

-- a key that was put in
pub key_put : {X : Type 0} (text : X → List ℕ) (k : X) (keys new : List X)
    → new ≡ (if list_any (λ x. pointwise nat_eq (text k) (text x)) keys then keys else keys ++ k ∷ [])
    → map text new ≡ with_name (map text keys) (text k)
unfolding with_name
key_put text k keys new e = go text k keys new _ e (any_named text (text k) keys)
  where
    go : {X : Type 0} (text : X → List ℕ) (k : X) (keys new : List X) (there : Bool)
        → new ≡ (if there then keys else keys ++ k ∷ []) → has_name (map text keys) (text k) ≡ there
        → map text new
        ≡ (if has_name (map text keys) (text k) then map text keys else map text keys ++ text k ∷ [])
    go text k keys new true e h = ap (λ xs. map text xs) e ∙ sym (cond-true _ _ _ h)
    go text k keys new false e h = ap (λ xs. map text xs) e ∙ map-append text keys (k ∷ [])
        ∙ sym (cond-false _ _ _ h)

-- a key that isn't found
pub key_absent : {X : Type 0} (text : X → List ℕ) (name : List ℕ) (keys : List X)
    → false ≡ list_any (λ x. pointwise nat_eq name (text x)) keys → Contains (map text keys) name → ⊥
key_absent text name keys none member =
    let key = image_from text keys name member in
    absurd (true≢false (sym (any_from (λ x. pointwise nat_eq name (text x)) keys key.0 key.1
    ((bytes_decides name (text key.0)).1 (sym key.2))) ∙ sym none))

-- the key that is found has the number behind its index
pub key_found : {X : Type 0} (text : X → List ℕ) (name : List ℕ) (keys : List X) (d : X) (i : ℕ)
    → position (λ x. pointwise nat_eq name (text x)) keys ≡ Some i → IsNumberOf (map text keys) name (i + 1)
key_found text name keys d i e =
    let at = position-Some (λ x. pointwise nat_eq name (text x)) keys i d e in
    let same = (bytes_decides name (text (get_or keys i d))).0 at.1 in
    record {
      index = i;
      number_is = refl;
      there = slice_get-get_or (map text keys) i name (omega (arith, at.0, length-map keys text))
          ∙ ap (λ t. Some t) (get_or-map text keys i d name at.0 ∙ sym same);
    }
