-- What a walk along a list that stops early says of the list's members.
use Rattle.std.proofs.Common.{◌<◌, ℕ, Bool, true, false, List, [], ◌∷◌, length, get_or, arith, subst, refl, rules}
use Rattle.std.specs.Prelude.{Contains, ◌↔◌, IsTrue, MatchBool}
use Rattle.std.specs.List.{HoldsAt, AllWithin}
use Rattle.std.proofs.lemmas.List.Elements.{Contains-get_or}

-- where a walk to the first member without P has stopped
abbrev pub WalkedAll : {X : Type 0} → (X → Type 0) → List X → Bool → Type 0
WalkedAll P xs r =
    MatchBool r (AllWithin P xs 0 (length xs)) ((k : ℕ) × (k < length xs) × HoldsAt (λ x. P x → ⊥) xs k)

-- a walk that finds none tells of all members
pub all_members : {X : Type 0} (P : X → Type 0) (xs : List X) (r : Bool) → WalkedAll P xs r → IsTrue r
    ↔ ((x : X) → Contains xs x → P x)
all_members P xs true h = (λ _ x m. subst P m.2 (h m.0 x (omega arith) m.1), λ _. refl)
all_members P [] false h = (λ e. absurd (search rules), λ each. absurd (let lt = h.1 in omega arith))
all_members P (y ∷ ys) false h = (
  λ e. absurd (search rules),
  λ each.
      absurd (h.2 y (each (get_or (y ∷ ys) h.0 y) (Contains-get_or (y ∷ ys) h.0 y h.1))),
)

-- where a walk to the first member with P has stopped
abbrev pub WalkedAny : {X : Type 0} → (X → Type 0) → List X → Bool → Type 0
WalkedAny P xs r = MatchBool r ((k : ℕ) × (k < length xs) × HoldsAt P xs k) (AllWithin (λ x. P x → ⊥) xs 0 (length xs))

-- a walk that finds one tells of a member
pub any_members : {X : Type 0} (P : X → Type 0) (xs : List X) (r : Bool) → WalkedAny P xs r → IsTrue r
    ↔ ((x : X) × Contains xs x × P x)
any_members P [] true h = absurd (let lt = h.1 in omega arith)
any_members P (y ∷ ys) true h = (λ _. (get_or (y ∷ ys) h.0 y, Contains-get_or (y ∷ ys) h.0 y h.1, h.2 y), λ _. refl)
any_members P xs false h =
    (λ e. absurd (search rules), λ w. absurd (subst (λ x. P x → ⊥) w.1.2 (h w.1.0 w.0 (omega arith) w.1.1) w.2))
