-- The members of a list's image, and of the lists that its items give.
use Rattle.std.proofs.Common.{◌≡◌, ◌<◌, List, [], ◌∷◌, length, get_or, map, arith, ap, sym, subst, ◌∙◌, refl, ⊎_elim}
use Rattle.std.specs.Prelude.{Contains}
use Rattle.std.specs.List.{flat_map}
use Rattle.std.proofs.lemmas.List.{get_or-map, length-map}
use Rattle.std.proofs.lemmas.List.Elements.{Contains-append_cases, Contains-append_left, Contains-append_right, Contains-get_or}
use Rattle.lists.proofs.Membership.{Contains-nil, Contains-head, Contains-tail, Contains-cons_cases}

-- a member's image is a member of the images
pub image_there : {X Y : Type 0} (g : X → Y) (xs : List X) (x : X) → Contains xs x → Contains (map g xs) (g x)
image_there g xs x c = (
  c.0,
  omega (arith, c.1, length-map xs g),
  get_or-map g xs c.0 x (g x) c.1 ∙ ap g c.2,
)

-- a member of the images is a member's image
pub image_from : {X Y : Type 0} (g : X → Y) (xs : List X) (y : Y) → Contains (map g xs) y
    → (x : X) × Contains xs x × (g x ≡ y)
image_from g [] y c = let lt = c.1 in absurd (omega arith)
image_from g (x ∷ xs) y c =
    let within : c.0 < length (x ∷ xs) = omega (arith, c.1, length-map (x ∷ xs) g) in (
      get_or (x ∷ xs) c.0 x,
      Contains-get_or (x ∷ xs) c.0 x within,
      sym (get_or-map g (x ∷ xs) c.0 x y within) ∙ c.2,
    )

-- what an item gives is among all that is given
pub in_flat : {A B : Type 0} (g : A → List B) (xs : List A) (x : A) (y : B) → Contains xs x → Contains (g x) y
    → Contains (flat_map g xs) y
in_flat g [] x y c d = absurd (Contains-nil x c)
in_flat g (z ∷ xs) x y c d = ⊎_elim
    (λ e. Contains-append_left (g z) (flat_map g xs) y (subst (λ w. Contains (g w) y) (sym e) d))
    (λ k. Contains-append_right (g z) (flat_map g xs) y (in_flat g xs x y k d))
    (Contains-cons_cases z xs x c)

-- all that is given is given by an item
pub flat_from : {A B : Type 0} (g : A → List B) (xs : List A) (y : B) → Contains (flat_map g xs) y
    → (x : A) × Contains xs x × Contains (g x) y
flat_from g [] y c = absurd (Contains-nil y c)
flat_from g (z ∷ xs) y c = ⊎_elim
    (λ here. (z, Contains-head z xs z refl, here))
    (λ later. let w = flat_from g xs y later in (w.0, Contains-tail z xs w.0 w.1, w.2))
    (Contains-append_cases (g z) (flat_map g xs) y c)
