-- The first items of a list, and the rest.
use Rattle.std.proofs.Common.{◌≡◌, ℕ, ◌+◌, ◌<◌, ◌≤◌, List, ◌∷◌, length, get_or, take, drop, drop-cons, add-one, refl, sym, subst, ⊎_elim}
use Rattle.std.specs.Prelude.{Contains}
use Rattle.std.proofs.lemmas.List.{take_all, take_more}
use Rattle.std.proofs.lemmas.List.Elements.{Contains-push_cases}

-- what holds of the first items and of one more
pub front_more : {X : Type 0} (P : X → Type 0) (xs : List X) (i : ℕ) (d : X) → i < length xs
    → ((x : X) → Contains (take i xs) x → P x) → P (get_or xs i d) → (x : X) → Contains (take (i + 1) xs) x → P x
front_more P xs i d lt all here x c =
    ⊎_elim (λ old. all x old) (λ (e : get_or xs i d ≡ x). subst P e here)
    (Contains-push_cases (take i xs) (get_or xs i d) x (subst (λ ys. Contains ys x) (take_more xs i d lt) c))

-- what holds of the first items, where these are all
pub front_whole : {X : Type 0} (P : X → Type 0) (xs : List X) (i : ℕ) → length xs ≤ i
    → ((x : X) → Contains (take i xs) x → P x) → (x : X) → Contains xs x → P x
front_whole P xs i e all x c = all x (subst (λ ys. Contains ys x) (sym (take_all i xs e)) c)

-- the next item, and the rest after it
pub drop_next : (xs : List ℕ) (n : ℕ) → n < length xs → drop n xs ≡ get_or xs n 0 ∷ drop (n + 1) xs
drop_next xs n h = rw (add-one, drop-cons xs n 0) refl
