-- Whether no two sets of a list have the same members, set by set.
use Rattle.std.proofs.Common.{◌≡◌, ◌∙◌, ℕ, ◌+◌, ◌<◌, List, [], length, get_or, take, arith, sym, subst}
use Rattle.std.proofs.lemmas.List.{get_or-take, get_or_default, length-take}
use Rattle.std.proofs.lemmas.List.Elements.{Contains-get_or}
use Rattle.semantics.specs.Laws.{HasSameMembers}
use Rattle.semantics.specs.Sets.{IsListed}
use Rattle.session_log.specs.Ends.{AreDifferent}
use Rattle.core_answers.proofs.Fronts.{below_next}

-- a set that is listed before its index comes twice
pub comes_twice : (sets : List (List ℕ)) (n : ℕ) (set : List ℕ) → n < length sets → set ≡ get_or sets n set
    → IsListed (take n sets) set → AreDifferent sets → ⊥
comes_twice sets n set lt at is all =
    let c = is.member in
    let early : c.0 < n = (let less : c.0 < length (take n sets) = c.1 in omega (arith, less, length-take n sets)) in
    let first : get_or sets c.0 [] ≡ is.set =
    sym (get_or-take n sets c.0 [] early) ∙ (get_or_default (take n sets) c.0 [] is.set c.1 ∙ c.2) in
    let second : get_or sets n [] ≡ set = sym (at ∙ get_or_default sets n set [] lt) in
    all c.0 n early lt (subst (λ (s : List ℕ). HasSameMembers s (get_or sets n [])) (sym first)
    (subst (λ (t : List ℕ). HasSameMembers is.set t) (sym second) is.same))

-- and one that isn't differs from those before it
pub differs_next : (sets : List (List ℕ)) (n : ℕ) (set : List ℕ) → n < length sets → set ≡ get_or sets n set
    → (IsListed (take n sets) set → ⊥)
    → ((i j : ℕ) → i < j → j < n → HasSameMembers (get_or sets i []) (get_or sets j []) → ⊥)
    → (i j : ℕ) → i < j → j < n + 1 → HasSameMembers (get_or sets i []) (get_or sets j []) → ⊥
differs_next sets n set lt at none all i j less end =
    below_next (λ k. i < k → HasSameMembers (get_or sets i []) (get_or sets k []) → ⊥) n
    (λ k small low. all i k low small)
    (λ low same. none (record {
      set = get_or (take n sets) i [];
      member = Contains-get_or (take n sets) i [] (omega (arith, low, lt, length-take n sets));
      same = subst (λ (s : List ℕ). HasSameMembers s set) (sym (get_or-take n sets i [] low))
          (subst (λ (t : List ℕ). HasSameMembers (get_or sets i []) t) (sym (at ∙ get_or_default sets n set [] lt))
          same);
    }))
    j end less
