-- Members of lists, and lists whose members lie in each other's.
use Rattle.std.proofs.Common.{◌≡◌, ◌⊎◌, ℕ, List, [], ◌∷◌, ◌++◌, Contains, arith, inl, inr, ⊎_elim}
use Rattle.std.proofs.lemmas.List.Elements.{Contains-append_right, Contains-append_cases, Contains-push_cases}
use Rattle.lists.specs.Members.{IsWithin}

-- the empty list has no member
pub Contains-nil : {X : Type 0} (x : X) → Contains [] x → ⊥
Contains-nil x c = let lt = c.1 in omega arith

-- a list's first item is a member
pub Contains-head : {X : Type 0} (y : X) (xs : List X) (x : X) → y ≡ x → Contains (y ∷ xs) x
Contains-head y xs x e = (0, omega arith, e)

-- a later member is a member
pub Contains-tail : {X : Type 0} (y : X) (xs : List X) (x : X) → Contains xs x → Contains (y ∷ xs) x
Contains-tail y xs x c = Contains-append_right (y ∷ []) xs x c

-- a member is the first item or a later one
pub Contains-cons_cases : {X : Type 0} (y : X) (xs : List X) (x : X) → Contains (y ∷ xs) x → (y ≡ x) ⊎ Contains xs x
Contains-cons_cases y xs x c =
    ⊎_elim (λ h. ⊎_elim (λ none. absurd (Contains-nil x none)) (λ e. inl e) (Contains-push_cases [] y x h))
    (λ h. inr h)
    (Contains-append_cases (y ∷ []) xs x c)

-- what is added at the end is a member
pub Contains-pushed : {X : Type 0} (xs : List X) (y x : X) → y ≡ x → Contains (xs ++ y ∷ []) x
Contains-pushed xs y x e = Contains-append_right xs (y ∷ []) x (Contains-head y [] x e)

pub IsWithin-refl : (xs : List ℕ) → IsWithin xs xs
IsWithin-refl xs = λ x c. c

pub IsWithin-trans : (xs ys zs : List ℕ) → IsWithin xs ys → IsWithin ys zs → IsWithin xs zs
IsWithin-trans xs ys zs left right = λ x c. right x (left x c)
