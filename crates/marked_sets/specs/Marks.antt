-- Numbers below a bound, some of which are marked.
use Rattle.std.specs.Prelude.{◌≡◌, ◌↔◌, ◌⊎◌, ℕ, ◌≤◌, ◌==◌, Bool, false, List, Contains, IsTrue, length, map, slice_index_or}

-- the numbers with the present stamp are marked
abbrev pub marks_of : List ℕ → ℕ → List Bool
marks_of stamps now = map (λ stamp. stamp == now) stamps

-- no stamp lies ahead of the present one
pub record AreStamps (stamps : List ℕ) (now : ℕ) : Type 0 where
  pub given : (stamp : ℕ) → Contains stamps stamp → stamp ≤ now

-- whether a number is marked; one past the bound is not
abbrev pub is_marked : List Bool → ℕ → Bool
is_marked marks x = slice_index_or marks x false

-- exactly the numbers of which P holds are marked
pub record AreMarked (P : ℕ → Type 0) (marks : List Bool) : Type 0 where
  pub marked : (x : ℕ) → IsTrue (is_marked marks x) ↔ P x

-- exactly the numbers of which P holds have been marked, beside those that were
pub record MarksAlso (P : ℕ → Type 0) (old new : List Bool) : Type 0 where
  pub long : length new ≡ length old
  pub marked : (x : ℕ) → IsTrue (is_marked new x) ↔ (IsTrue (is_marked old x) ⊎ P x)
