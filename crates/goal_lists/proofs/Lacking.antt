-- Literals of the numbers that a set lacks.
use Rattle.std.proofs.Common.{◌≡◌, ℕ, ◌+◌, ◌<◌, Bool, true, false, not, List, [], ◌∷◌, ◌++◌, length, get_or, map, filter, take, ap, sym, ◌∙◌}
use Rattle.std.proofs.lemmas.List.{append-nil, map-append, take_more}
use Rattle.std.proofs.lemmas.List.Elements.{filter-append}
use Rattle.lists.specs.Members.{IsSetOf}
use Rattle.semantics.specs.Frameworks.{Framework}
use Rattle.certificate_claims.specs.SetLiterals.{has, is_ranged, members, wider, are_ranged}
use Rattle.certificate_claims.proofs.RangeLists.{kept_alike}
use Rattle.certificate_claims.proofs.SetTests.{one_kept, one_lost}
use Rattle.oracle_face.specs.Kinds.{IsRanged, is_assumption_based}
use Rattle.goal_lists.proofs.GoalKinds.{range_test}

-- the literal of a number is added, or the number is passed over
pub said_one : {L : Type 0} (p : ℕ → Bool) (f : ℕ → L) (x : ℕ) (old new : List L) → p x ≡ true
    → new ≡ old ++ f x ∷ [] → new ≡ old ++ map f (filter p (x ∷ []))
said_one p f x old new pass e = e ∙ ap (λ ys. old ++ map f ys) (sym (one_kept p x pass))

pub passed_one : {L : Type 0} (p : ℕ → Bool) (f : ℕ → L) (x : ℕ) (old : List L) → p x ≡ false
    → old ≡ old ++ map f (filter p (x ∷ []))
passed_one p f x old fail = sym (append-nil old) ∙ ap (λ ys. old ++ map f ys) (sym (one_lost p x fail))

-- one number more
pub said_more : {L : Type 0} (p : ℕ → Bool) (f : ℕ → L) (xs : List ℕ) (old new : List L) (i : ℕ) → i < length xs
    → old ≡ map f (filter p (take i xs)) → new ≡ old ++ map f (filter p (get_or xs i 0 ∷ []))
    → new ≡ map f (filter p (take (i + 1) xs))
said_more p f xs old new i lt so_far e =
    e ∙ (ap (λ ys. ys ++ map f (filter p (get_or xs i 0 ∷ []))) so_far
    ∙ (sym (map-append f (filter p (take i xs)) (filter p (get_or xs i 0 ∷ [])))
    ∙ ap (map f) (sym (filter-append p (take i xs) (get_or xs i 0 ∷ []))
    ∙ ap (filter p) (sym (take_more xs i 0 lt)))))

-- what a range in an abstract framework lacks is outside the range
pub lacks_range : (f : Framework) (set range : List ℕ) → is_assumption_based f ≡ false → IsSetOf (IsRanged f set) range
    → are_ranged (filter (λ x. not (has range x)) (members f)) ≡ wider f set
lacks_range f set range kind h =
    ap are_ranged (kept_alike (λ x. not (has range x)) (λ x. not (is_ranged f set x)) (members f)
    (λ x c. range_test f set range x kind h))
