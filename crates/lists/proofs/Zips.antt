-- Lists that are paired item by item.
use Rattle.std.proofs.Common.{◌≡◌, List, [], ◌∷◌, ◌++◌, length, refl, ap, ◌∙◌, arith}
use Rattle.std.specs.List.{AllZip}

-- one pair more
pub zip_push : {A B : Type 0} (R : A → B → Type 0) (xs : List A) (ys : List B) (x : A) (y : B) → AllZip R xs ys → R x y
    → AllZip R (xs ++ x ∷ []) (ys ++ y ∷ [])
zip_push R [] [] x y all one = (one, tt)
zip_push R [] (b ∷ bs) x y all one = absurd all
zip_push R (a ∷ us) [] x y all one = absurd all
zip_push R (a ∷ us) (b ∷ bs) x y all one = (all.0, zip_push R us bs x y all.1 one)

-- partners are the same where each has one at most
pub zip_same : {A B : Type 0} (R : A → B → Type 0) → ((x : A) (y z : B) → R x y → R x z → y ≡ z) → (xs : List A)
    (ys zs : List B) → AllZip R xs ys → AllZip R xs zs → ys ≡ zs
zip_same R same [] [] [] h k = refl
zip_same R same [] [] (z ∷ zs) h k = absurd k
zip_same R same [] (y ∷ ys) zs h k = absurd h
zip_same R same (x ∷ xs) [] zs h k = absurd h
zip_same R same (x ∷ xs) (y ∷ ys) [] h k = absurd k
zip_same R same (x ∷ xs) (y ∷ ys) (z ∷ zs) h k =
    ap (λ w. w ∷ ys) (same x y z h.0 k.0) ∙ ap (λ ws. z ∷ ws) (zip_same R same xs ys zs h.1 k.1)

-- the lists are equally long
pub zip_length : {A B : Type 0} (R : A → B → Type 0) (xs : List A) (ys : List B) → AllZip R xs ys → length xs ≡ length ys
zip_length R [] [] all = refl
zip_length R [] (b ∷ bs) all = absurd all
zip_length R (a ∷ us) [] all = absurd all
zip_length R (a ∷ us) (b ∷ bs) all = let h = zip_length R us bs all.1 in omega arith
