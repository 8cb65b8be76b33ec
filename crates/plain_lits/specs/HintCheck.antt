-- The check of a clause with its hints. A literal is of any type L with its negation `neg`; a clause is a list
-- of literals, of which only the members count; an assignment is the list of the literals that are true; a step
-- is named by its number, from 1 on. An outcome is `Ok n` where the clause is taken at the n-th hint, and
-- `Err place` where it is rejected at a place.
use Rattle.std.specs.Prelude.{◌≡◌, ◌≢◌, ◌⊎◌, ℕ, ◌+◌, ◌-◌, ◌<◌, ◌≤◌, Bool, true, not, List, [], ◌∷◌, ◌++◌}
use Rattle.std.specs.Prelude.{length, map, Contains, slice_index_or, Result, Ok, Err}

-- the clause of a step
abbrev pub clause_at : {L : Type 0} → List (List L) → ℕ → List L
clause_at steps number = slice_index_or steps (number - 1) []

-- a number names one of the steps
pub record IsNamed {L : Type 0} (steps : List (List L)) (number : ℕ) : Type 0 where
  pub from_one : 0 < number
  pub within : number ≤ length steps

-- all literals are false
pub record IsFalsified {L : Type 0} (neg : L → L) (truths clause : List L) : Type 0 where
  pub each : (l : L) → Contains clause l → Contains truths (neg l)

-- all literals are false but one, and that one is unset
pub record IsUnit {L : Type 0} (neg : L → L) (truths clause : List L) (unset : L) : Type 0 where
  pub there : Contains clause unset
  pub not_true : Contains truths unset → ⊥
  pub not_false : Contains truths (neg unset) → ⊥
  pub others : (l : L) → Contains clause l → l ≢ unset → Contains truths (neg l)

-- a hint names a step whose clause is false
pub record IsFalseHint {L : Type 0} (neg : L → L) (steps : List (List L)) (truths : List L)
    (hint : ℕ) : Type 0 where
  pub named : IsNamed steps hint
  pub all_false : IsFalsified neg truths (clause_at steps hint)

-- a hint names a step whose clause is unit
pub record IsUnitHint {L : Type 0} (neg : L → L) (steps : List (List L)) (truths : List L) (hint : ℕ)
    (unset : L) : Type 0 where
  pub named : IsNamed steps hint
  pub unit : IsUnit neg truths (clause_at steps hint) unset

-- every other case, and a hint that names no step
pub record IsOtherHint {L : Type 0} (neg : L → L) (steps : List (List L)) (truths : List L)
    (hint : ℕ) : Type 0 where
  pub not_false : IsFalseHint neg steps truths hint → ⊥
  pub not_unit : (unset : L) → IsUnitHint neg steps truths hint unset → ⊥

-- what comes of looking at hints in turn, the first of which has this place: at a false clause the check
-- succeeds, a unit clause makes its literal true, and every other case is rejected there; where the hints end
-- without a false clause, the place after the last is rejected
abbrev pub Propagates : {L : Type 0} → (L → L) → List (List L) → List L → ℕ → List ℕ → Result ℕ ℕ → Type 0
Propagates neg steps truths place [] outcome = outcome ≡ Err place
Propagates {L} neg steps truths place (hint ∷ hints) outcome =
    (IsFalseHint neg steps truths hint × (outcome ≡ Ok place))
    ⊎ (((unset : L) × IsUnitHint neg steps truths hint unset
    × Propagates neg steps (truths ++ unset ∷ []) (place + 1) hints outcome)
    ⊎ (IsOtherHint neg steps truths hint × (outcome ≡ Err place)))

-- a clause holds a literal and its negation
abbrev pub IsTautology : {L : Type 0} → (L → L) → List L → Type 0
IsTautology {L} neg clause = (l : L) × Contains clause l × Contains clause (neg l)

-- what the check says of a clause with its hints beside the steps before it: a clause with a literal and its
-- negation is rejected at place 0; otherwise every literal of the clause is taken to be false, and the hints
-- are looked at from place 1 on
abbrev pub Checks : {L : Type 0} → (L → L) → List (List L) → List L → List ℕ → Result ℕ ℕ → Type 0
Checks neg steps clause hints outcome =
    (IsTautology neg clause × (outcome ≡ Err 0))
    ⊎ ((IsTautology neg clause → ⊥) × Propagates neg steps (map neg clause) 1 hints outcome)

-- a reading says of each literal whether it is true, and of a literal and its negation it says one of each
abbrev pub IsValuation : {L : Type 0} → (L → L) → (L → Bool) → Type 0
IsValuation {L} neg reading = (l : L) → reading (neg l) ≡ not (reading l)

-- a clause is true where one of its literals is
abbrev pub IsTrueClause : {L : Type 0} → (L → Bool) → List L → Type 0
IsTrueClause {L} reading clause = (l : L) × Contains clause l × (reading l ≡ true)

-- a clause that the check takes is true under each reading that makes the clauses of the hints true
abbrev pub Follows : {L : Type 0} → (L → L) → List (List L) → List L → List ℕ → Type 0
Follows {L} neg steps clause hints = (reading : L → Bool) → IsValuation neg reading
    → ((hint : ℕ) → Contains hints hint → IsTrueClause reading (clause_at steps hint))
    → IsTrueClause reading clause
