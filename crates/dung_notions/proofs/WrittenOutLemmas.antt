-- Lists of which only what fits is taken, item by item.
use Rattle.std.proofs.Common.{◌≡◌, ◌+◌, ◌<◌, ℕ, List, [], ◌∷◌, ◌++◌, length, get_or, take, sym, subst, inl, inr, ⊎_elim}
use Rattle.std.specs.Prelude.{◌↔◌, Contains}
use Rattle.std.proofs.lemmas.List.{take_more}
use Rattle.std.proofs.lemmas.List.Elements.{Contains-push_cases, Contains-append_left, Contains-push}
use Rattle.lists.proofs.Membership.{Contains-nil}
use Rattle.dung_notions.specs.WrittenOut.{HasAdded}

-- the list has just what fits among the first n items
abbrev pub HasFitting : {X : Type 0} → (X → Type 0) → List X → ℕ → List X → Type 0
HasFitting {X} P items n found = (x : X) → Contains found x ↔ (Contains (take n items) x × P x)

pub added_pushed : {X : Type 0} (P : X → Type 0) (item : X) (old : List X) → P item
    → HasAdded P item old (old ++ item ∷ [])
added_pushed P item old fits x = (
  λ h. ⊎_elim (λ c. inl c) (λ e. inr (sym e, subst P e fits)) (Contains-push_cases old item x h),
  λ h. ⊎_elim (λ c. Contains-append_left old (item ∷ []) x c)
      (λ w. subst (λ y. Contains (old ++ item ∷ []) y) (sym w.0) (Contains-push old item)) h,
)

pub added_nothing : {X : Type 0} (P : X → Type 0) (item : X) (old : List X) → (P item → ⊥) → HasAdded P item old old
added_nothing P item old not x = (
  λ h. inl h,
  λ h. ⊎_elim (λ c. c) (λ w. absurd (not (subst P w.0 w.1))) h,
)

pub fitting_none : {X : Type 0} (P : X → Type 0) (items : List X) → HasFitting P items 0 []
fitting_none P items x = (λ h. absurd (Contains-nil x h), λ w. absurd (Contains-nil x w.0))

pub fitting_more : {X : Type 0} (P : X → Type 0) (items : List X) (n : ℕ) (d : X) (old new : List X) → n < length items
    → HasFitting P items n old → HasAdded P (get_or items n d) old new → HasFitting P items (n + 1) new
fitting_more P items n d old new lt before added x =
    let is : take (n + 1) items ≡ take n items ++ get_or items n d ∷ [] = take_more items n d lt in (
      λ h. ⊎_elim
          (λ c. let w = (before x).0 c in
          (rw is (Contains-append_left (take n items) (get_or items n d ∷ []) x w.0), w.1))
          (λ w. (rw (is, w.0) (Contains-push (take n items) (get_or items n d)), w.1))
          ((added x).0 h),
      λ w. ⊎_elim (λ c. (added x).1 (inl ((before x).1 (c, w.1))))
          (λ e. (added x).1 (inr (sym e, w.1)))
          (Contains-push_cases (take n items) (get_or items n d) x (rw is at w.0)),
    )
