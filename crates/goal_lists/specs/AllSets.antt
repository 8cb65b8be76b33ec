-- All sets that can be made of numbers.
use Rattle.std.specs.Prelude.{ℕ, Bool, List, [], ◌∷◌, ◌++◌, map}
use Rattle.std.specs.List.{list_all}
use Rattle.certificate_claims.specs.SetLiterals.{has}

-- the sets of the numbers in a list, each as a part of the list
abbrev pub all_sets : List ℕ → List (List ℕ)
all_sets [] = [] ∷ []
all_sets (x ∷ xs) = map (λ set. x ∷ set) (all_sets xs) ++ all_sets xs

-- whether each member of the one is a member of the other
abbrev pub is_part : List ℕ → List ℕ → Bool
is_part s t = list_all (has t) s
