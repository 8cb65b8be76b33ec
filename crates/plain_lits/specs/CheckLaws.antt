-- What holds of the check of a clause with its hints, at each type of literals.
use Rattle.std.specs.Prelude.{◌≡◌, ◌≤◌, ◌↔◌, ℕ, List, length, take, Contains, Result, Ok}
use Rattle.plain_lits.specs.HintCheck.{Checks, IsNamed, Follows, clause_at}

-- a clause that is taken at the n-th hint names steps by its first n hints, is taken with these alone, and is
-- true wherever the clauses of these steps are
pub record IsSound {L : Type 0} (neg : L → L) (steps : List (List L)) (clause : List L) (hints : List ℕ)
    (n : ℕ) : Type 0 where
  pub within : n ≤ length hints
  pub named : (hint : ℕ) → Contains (take n hints) hint → IsNamed steps hint
  pub alone : Checks neg steps clause (take n hints) (Ok n)
  pub follows : Follows neg steps clause (take n hints)

-- the check has exactly one outcome
pub record HasOneOutcome {L : Type 0} (neg : L → L) (steps : List (List L)) (clause : List L)
    (hints : List ℕ) : Type 0 where
  pub some : (outcome : Result ℕ ℕ) × Checks neg steps clause hints outcome
  pub one : (a b : Result ℕ ℕ) → Checks neg steps clause hints a → Checks neg steps clause hints b → a ≡ b

-- literals of one type stand for literals of another: among those of a domain, which has the negation of each of
-- its literals, a negation stands for the negation, and no two literals stand for the same
pub record Renames {L M : Type 0} (neg : L → L) (other : M → M) (to : L → M) (IsIn : L → Type 0) : Type 0 where
  pub closed : (l : L) → IsIn l → IsIn (neg l)
  pub negates : (l : L) → IsIn l → to (neg l) ≡ other (to l)
  pub apart : (a b : L) → IsIn a → IsIn b → to a ≡ to b → a ≡ b

-- a clause has just the literals that another one's stand for, and these are in the domain
pub record IsImage {L M : Type 0} (to : L → M) (IsIn : L → Type 0) (clause : List L)
    (image : List M) : Type 0 where
  pub within : (l : L) → Contains clause l → IsIn l
  pub there : (l : L) → Contains clause l → Contains image (to l)
  pub back : (m : M) → Contains image m → (l : L) × Contains clause l × (to l ≡ m)

-- a hint is moved: it names a step just where the new one does, and then the one's clause is the image of the other's
pub record IsMovedHint {L M : Type 0} (to : L → M) (IsIn : L → Type 0) (steps : List (List L))
    (new_steps : List (List M)) (hint new_hint : ℕ) : Type 0 where
  pub named : IsNamed steps hint ↔ IsNamed new_steps new_hint
  pub image : IsNamed steps hint → IsImage to IsIn (clause_at steps hint) (clause_at new_steps new_hint)

-- a check moves to other literals and other numbers of steps: each hint and the clause are moved
pub record IsMovedCheck {L M : Type 0} (to : L → M) (IsIn : L → Type 0) (number : ℕ → ℕ)
    (steps : List (List L)) (new_steps : List (List M)) (clause : List L) (new_clause : List M)
    (hints : List ℕ) : Type 0 where
  pub clause_image : IsImage to IsIn clause new_clause
  pub each : (hint : ℕ) → Contains hints hint → IsMovedHint to IsIn steps new_steps hint (number hint)
