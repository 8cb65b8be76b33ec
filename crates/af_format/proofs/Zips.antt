-- Two lists related index by index.
use Rattle.std.proofs.Common.{ℕ, zero, suc, ◌<◌, List, [], ◌∷◌, length, get_or, subst, arith}
use Rattle.std.specs.Prelude.{Contains}
use Rattle.std.specs.List.{AllZip}

-- what stands at an index of the first list has a partner
pub AllZip-at : {A B : Type 0} (R : A → B → Type 0) (xs : List A) (ys : List B) (k : ℕ) (d : A) → AllZip R xs ys
    → k < length xs → (y : B) × R (get_or xs k d) y
AllZip-at R [] ys k d h within = absurd (omega arith)
AllZip-at R (x ∷ xs) [] k d h within = absurd h
AllZip-at R (x ∷ xs) (y ∷ ys) zero d h within = (y, h.0)
AllZip-at R (x ∷ xs) (y ∷ ys) (suc k) d h within = AllZip-at R xs ys k d h.1 (omega arith)

-- what the second list holds has a partner
pub AllZip-member : {A B : Type 0} (R : A → B → Type 0) (xs : List A) (ys : List B) (y : B) → AllZip R xs ys
    → Contains ys y → (x : A) × R x y
AllZip-member R [] [] y h c = absurd (omega arith)
AllZip-member R [] (z ∷ ys) y h c = absurd h
AllZip-member R (x ∷ xs) [] y h c = absurd h
AllZip-member R (x ∷ xs) (z ∷ ys) y h (zero, within, e) = (x, subst (λ w. R x w) e h.0)
AllZip-member R (x ∷ xs) (z ∷ ys) y h (suc k, within, e) = AllZip-member R xs ys y h.1 (k, omega arith, e)
