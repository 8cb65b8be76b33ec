-- How many elements of a list pass a test.
use Rattle.std.proofs.Common.{◌≡◌, ◌+◌, ◌≤◌, List, [], ◌∷◌, get_or, arith, sym, ◌∙◌, refl, cond, Bool, true, false, ⊎_elim}
use Rattle.std.specs.Prelude.{Contains, All, count_by}
use Rattle.std.proofs.lemmas.Bool.{cases_Bool}
use Rattle.std.proofs.lemmas.List.Elements.{All-head, All-tail}
use Rattle.std.proofs.lemmas.List.Sums.{sum_by-cons, get_or-le-sum_by}

-- one more element in front
pub count_by-cons : {X : Type 0} (p : X → Bool) (x : X) (xs : List X)
    → count_by p (x ∷ xs) ≡ cond (p x) 1 0 + count_by p xs
count_by-cons p x xs = sum_by-cons (λ y. cond (p y) 1 0) x xs

pub count_yes : {X : Type 0} (p : X → Bool) (x : X) (xs : List X) → p x ≡ true
    → count_by p (x ∷ xs) ≡ 1 + count_by p xs
count_yes p x xs pass = count_by-cons p x xs ∙ rw pass refl

pub count_no : {X : Type 0} (p : X → Bool) (x : X) (xs : List X) → p x ≡ false
    → count_by p (x ∷ xs) ≡ count_by p xs
count_no p x xs fail = count_by-cons p x xs ∙ rw fail (omega arith)

-- where none is counted, no member passes
pub none_passes : {X : Type 0} (p : X → Bool) (xs : List X) (x : X) → count_by p xs ≡ 0 → Contains xs x
    → p x ≡ false
none_passes p xs x none h =
    let le : cond (p (get_or xs h.0 x)) 1 0 ≤ count_by p xs = get_or-le-sum_by
    (λ y. cond (p y) 1 0) xs h.0 x h.1 in
    let le' : cond (p x) 1 0 ≤ count_by p xs = rw h.2 at le in
    ⊎_elim (λ yes. absurd (omega (arith, rw yes at le', none))) (λ not. not) (cases_Bool (p x))

-- where no element passes, none is counted
pub none_counted : {X : Type 0} (p : X → Bool) (xs : List X) → All (λ x. p x ≡ false) xs → count_by p xs ≡ 0
none_counted p [] h = refl
none_counted p (x ∷ xs) h =
    count_no p x xs (All-head (λ x. p x ≡ false) x xs h)
    ∙ none_counted p xs (All-tail (λ x. p x ≡ false) x xs h)

-- tests that agree at each element count alike
pub count_agree : {X : Type 0} (p q : X → Bool) (xs : List X) → All (λ x. p x ≡ q x) xs
    → count_by p xs ≡ count_by q xs
count_agree p q [] h = refl
count_agree p q (x ∷ xs) h =
    count_by-cons p x xs ∙ rw
    (All-head (λ x. p x ≡ q x) x xs h, count_agree p q xs (All-tail (λ x. p x ≡ q x) x xs h))
    (sym (count_by-cons q x xs))
