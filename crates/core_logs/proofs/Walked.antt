-- What a walk along a list that stops at the first member with P says of the list's members.
use Rattle.std.proofs.Common.{◌≡◌, ◌<◌, ℕ, Bool, true, false, List, [], ◌∷◌, length, get_or, arith, subst, sym, refl}
use Rattle.std.specs.Prelude.{Contains, ◌↔◌, IsTrue, MatchBool, Option}
use Rattle.std.specs.List.{HoldsAt, AllWithin}
use Rattle.std.proofs.lemmas.Bool.{false≢true}
use Rattle.std.proofs.lemmas.Iterator.{YieldsList, cases_from_all, cases_from_any}
use Rattle.std.proofs.lemmas.List.Elements.{Contains-get_or}
use Rattle.std.specs.Fn.{Called}
use Rattle.std.specs.Iterator.{YieldsThen}
use Rattle.std.specs.List.{FoldsTo}
use Rattle.std.specs.Option.{MatchOption}
use denote.Param.Members.{Mut}
use Rattle.lists.proofs.Walks.{all_members}

-- some member has P
pub record IsSome {X : Type 0} (P : X → Type 0) (xs : List X) : Type 0 where
  pub item : X
  pub there : Contains xs item
  pub is : P item

-- where the walk has stopped
abbrev pub WalkedAny : {X : Type 0} → (X → Type 0) → List X → Bool → Type 0
WalkedAny P xs r =
    MatchBool r ((k : ℕ) × (k < length xs) × HoldsAt P xs k) (AllWithin (λ x. P x → ⊥) xs 0 (length xs))

pub any_members : {X : Type 0} (P : X → Type 0) (xs : List X) (r : Bool) → WalkedAny P xs r
    → IsTrue r ↔ IsSome P xs
any_members P [] true h = (λ _. absurd (let lt = h.1 in omega arith), λ _. refl)
any_members P (y ∷ ys) true h = (
  λ _. record { item = get_or (y ∷ ys) h.0 y; there = Contains-get_or (y ∷ ys) h.0 y h.1; is = h.2 y },
  λ _. refl,
)
any_members P xs false h = (
  λ e. absurd (false≢true e),
  λ w. absurd (h w.there.0 w.item (omega arith) w.there.1 (subst P (sym w.there.2) w.is)),
)

-- the same of the runs of `any` and `all`, whose test says of each item whether it has P
module _ {X A S F : Type 0} {steps : S → Option A → S → Type 0} {v : A → X} {g : Mut F (A × Unit {0}) Bool} {s : S}
    (u : S) (f : F) (r : Bool) (P : X → Type 0) (xs : List X) where
  pub any_found : (items : List A) × (o : Option A) × (j : F) × YieldsThen steps s items o u
      × FoldsTo (λ p x q. Called g p (x, tt) false q) f items j
      × MatchOption o (r ≡ false) (λ x. (r ≡ true) × ((h : F) × Called g j (x, tt) true h))
      → YieldsList steps v s xs → ((x : A) (q : F) → Called g f (x, tt) true q → P (v x))
      → ((x : A) (q : F) → Called g f (x, tt) false q → (q ≡ f) × (P (v x) → ⊥)) → IsTrue r ↔ IsSome P xs
  any_found ran yields met unmet =
      any_members P xs r (cases_from_any u f r P (λ x. P x → ⊥) ran yields met unmet)

  pub all_found : (items : List A) × (o : Option A) × (j : F) × YieldsThen steps s items o u
      × FoldsTo (λ p x q. Called g p (x, tt) true q) f items j
      × MatchOption o (r ≡ true) (λ x. (r ≡ false) × ((h : F) × Called g j (x, tt) false h))
      → YieldsList steps v s xs → ((x : A) (q : F) → Called g f (x, tt) true q → (q ≡ f) × P (v x))
      → ((x : A) (q : F) → Called g f (x, tt) false q → P (v x) → ⊥) → IsTrue r ↔ ((x : X) → Contains xs x → P x)
  all_found ran yields met unmet =
      all_members P xs r (cases_from_all u f r P (λ x. P x → ⊥) ran yields met unmet)
