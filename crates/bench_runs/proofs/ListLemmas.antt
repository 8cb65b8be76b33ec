-- Two lists side by side, beginnings of lists, and totals by a key.
use Rattle.std.proofs.Common.{arith, Bool, true, false, ◌≡◌, ◌⊎◌, ℕ, zero, suc, ◌==◌, ◌+◌, ◌<◌, ◌≤◌, List, [], ◌∷◌}
use Rattle.std.proofs.Common.{◌++◌, Contains, length, get_or, take, drop, cond, refl, sym, ap, subst, ◌∙◌, nat_lt, inl}
use Rattle.std.proofs.Common.{inr, ⊎_elim}
use Rattle.std.specs.Prelude.{All, count_by, filter}
use Rattle.std.specs.List.{AllPairs, AllZip}
use Rattle.std.proofs.lemmas.Bool.{cases_Bool}
use Rattle.std.proofs.lemmas.Bool.Decides.{nat_tests}
use Rattle.std.proofs.lemmas.List.{get_or-append-add, length-append, take-append-drop, take-append-le, take_all}
use Rattle.std.proofs.lemmas.List.Sums.{length-filter}
use mathlib.Core.List.{IsPrefix}
use Rattle.lists.proofs.Counts.{count_by-cons, count_no, count_yes, none_counted}
use Rattle.lists.proofs.Filters.{filter_whole}

pub some_item : {X : Type 0} (xs : List X) → 0 < length xs → X
some_item [] lt = absurd (omega arith)
some_item (x ∷ xs) lt = x

pub zip_long : {A B : Type 0} (R : A → B → Type 0) (xs : List A) (ys : List B) → AllZip R xs ys → length xs ≡ length ys
zip_long R [] [] all = refl
zip_long R [] (y ∷ ys) all = absurd all
zip_long R (x ∷ xs) [] all = absurd all
zip_long R (x ∷ xs) (y ∷ ys) all = ap suc (zip_long R xs ys all.1)

pub zip_at : {A B : Type 0} (R : A → B → Type 0) (xs : List A) (ys : List B) (i : ℕ) (d : A) (e : B) → AllZip R xs ys
    → i < length xs → R (get_or xs i d) (get_or ys i e)
zip_at R [] ys i d e all lt = absurd (omega arith)
zip_at R (x ∷ xs) [] i d e all lt = absurd all
zip_at R (x ∷ xs) (y ∷ ys) zero d e all lt = all.0
zip_at R (x ∷ xs) (y ∷ ys) (suc i) d e all lt = zip_at R xs ys i d e all.1 (omega arith)

pub zip_from : {A B : Type 0} (R : A → B → Type 0) (xs : List A) (ys : List B) → length xs ≡ length ys
    → ((i : ℕ) (d : A) (e : B) → i < length xs → R (get_or xs i d) (get_or ys i e)) → AllZip R xs ys
zip_from R [] [] long each = tt
zip_from R [] (y ∷ ys) long each = absurd (omega (arith, long))
zip_from R (x ∷ xs) [] long each = absurd (omega (arith, long))
zip_from R (x ∷ xs) (y ∷ ys) long each =
    (each 0 x y (omega arith), zip_from R xs ys (omega (arith, long)) (λ i d e lt. each (suc i) d e (omega arith)))

-- of two beginnings of a list the shorter is a beginning of the longer
pub prefix_within : {X : Type 0} (xs ys zs : List X) → IsPrefix xs zs → IsPrefix ys zs → length xs ≤ length ys
    → IsPrefix xs ys
prefix_within xs ys zs one two short =
    let first : xs ≡ take (length xs) zs =
    sym (take_all (length xs) xs (omega arith)) ∙ sym (take-append-le (length xs) xs one.0 (omega arith))
    ∙ ap (take (length xs)) one.1 in
    let second : take (length xs) zs ≡ take (length xs) ys =
    ap (take (length xs)) (sym two.1) ∙ take-append-le (length xs) ys two.0 short in
    (drop (length xs) ys, ap (λ l. l ++ drop (length xs) ys) (first ∙ second) ∙ take-append-drop (length xs) ys)

-- what stands behind an item of a list in order
pub behind : {X : Type 0} (R : X → X → Type 0) (us : List X) (x : X) (vs : List X) (y : X) → AllPairs R (us ++ x ∷ vs)
    → Contains vs y → R x y
behind R us x vs y rise c =
    let whole = length-append us (x ∷ vs) in
    let lt = c.1 in
    let last : ℕ = length us + suc c.0 in
    let here : get_or (us ++ x ∷ vs) (length us + 0) y ≡ x = get_or-append-add us (x ∷ vs) 0 y in
    let there : get_or (us ++ x ∷ vs) last y ≡ y = get_or-append-add us (x ∷ vs) (suc c.0) y ∙ c.2 in
    subst (λ z. R x z) there
    (subst (λ z. R z (get_or (us ++ x ∷ vs) last y)) here
    (rise (length us + 0) last y (omega arith) (omega arith)))

-- ---- totals

pub count_all : {X : Type 0} (p : X → Bool) (xs : List X) → All (λ x. p x ≡ true) xs → count_by p xs ≡ length xs
count_all p xs all = sym (length-filter p xs) ∙ ap length (filter_whole p xs all)

next_key : (k n : ℕ) → cond (nat_lt k (suc n)) 1 0 ≡ cond (nat_lt k n) 1 0 + cond (k == n) 1 0
next_key k n = grind (arith, nat_tests)

none_below : (k : ℕ) → nat_lt k 0 ≡ false
none_below k = grind (arith, nat_tests)

pub count_next : {X : Type 0} (key : X → ℕ) (n : ℕ) (xs : List X) → count_by (λ x. nat_lt (key x) (suc n)) xs
    ≡ count_by (λ x. nat_lt (key x) n) xs + count_by (λ x. key x == n) xs
count_next key n [] = refl
count_next key n (x ∷ xs) =
    let rest = count_next key n xs in
    let here = next_key (key x) n in
    let a = count_by-cons (λ x. nat_lt (key x) (suc n)) x xs in
    let b = count_by-cons (λ x. nat_lt (key x) n) x xs in
    let c = count_by-cons (λ x. key x == n) x xs in
    omega arith

-- where one list has at most as many items of each key below a bound, it has at most as many below the bound
pub total_within : {A B : Type 0} (key : A → ℕ) (other : B → ℕ) (xs : List A) (ys : List B) (n : ℕ)
    → ((k : ℕ) → k < n → count_by (λ x. key x == k) xs ≤ count_by (λ y. other y == k) ys)
    → count_by (λ x. nat_lt (key x) n) xs ≤ count_by (λ y. nat_lt (other y) n) ys
total_within key other xs ys zero each =
    let none = none_counted (λ x. nat_lt (key x) 0) xs (λ i d lt. none_below (key (get_or xs i d))) in omega arith
total_within key other xs ys (suc n) each =
    let below = total_within key other xs ys n (λ k lt. each k (omega arith)) in
    let here = each n (omega arith) in
    let a = count_next key n xs in
    let b = count_next other n ys in
    omega arith

swapped : {X : Type 0} (p q : X → Bool) (x : X) (ps qs : List X) (a b : Bool) → p x ≡ a → q x ≡ b
    → count_by p qs ≡ count_by q ps → count_by p (cond b (x ∷ qs) qs) ≡ count_by q (cond a (x ∷ ps) ps)
swapped p q x ps qs true true is also same = count_yes p x qs is ∙ ap (λ n. 1 + n) same ∙ sym (count_yes q x ps also)
swapped p q x ps qs true false is also same = same ∙ sym (count_no q x ps also)
swapped p q x ps qs false true is also same = count_no p x qs is ∙ same
swapped p q x ps qs false false is also same = same

pub count_swap : {X : Type 0} (p q : X → Bool) (xs : List X) → count_by p (filter q xs) ≡ count_by q (filter p xs)
count_swap p q [] = refl
count_swap p q (x ∷ xs) = swapped p q x (filter p xs) (filter q xs) (p x) (q x) refl refl (count_swap p q xs)
