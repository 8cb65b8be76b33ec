-- What a test over a list says of its members, and back.
use Rattle.std.proofs.Common.{◌≡◌, Bool, true, List, Contains, get_or}
use Rattle.std.specs.List.{list_any, list_all}
use Rattle.std.proofs.lemmas.List.Folds.{Any-from_list_any, list_any-from_Any}
use Rattle.std.proofs.lemmas.List.Sums.{AllPass-from_list_all, list_all-from_AllPass}
use Rattle.std.proofs.lemmas.List.Elements.{All-contains, Contains-get_or}

-- a member passes where some member does
pub any_gives : {X : Type 0} (p : X → Bool) (xs : List X) → list_any p xs ≡ true → (x : X) × Contains xs x
    × (p x ≡ true)
any_gives p xs h = let a = Any-from_list_any p xs h in (a.1, (a.0, a.2, a.3), a.4)

-- some member passes
pub any_from : {X : Type 0} (p : X → Bool) (xs : List X) (x : X) → Contains xs x → p x ≡ true → list_any p xs ≡ true
any_from p xs x c h = list_any-from_Any p xs (c.0, x, c.1, c.2, h)

-- each member passes where all do
pub all_gives : {X : Type 0} (p : X → Bool) (xs : List X) → list_all p xs ≡ true → (x : X) → Contains xs x → p x ≡ true
all_gives p xs h x c = All-contains (λ y. p y ≡ true) xs x (AllPass-from_list_all p xs h) c

-- all pass where each member does
pub all_from : {X : Type 0} (p : X → Bool) (xs : List X) → ((x : X) → Contains xs x → p x ≡ true) → list_all p xs ≡ true
all_from p xs h = list_all-from_AllPass p xs (λ k d lt. h (get_or xs k d) (Contains-get_or xs k d lt))
