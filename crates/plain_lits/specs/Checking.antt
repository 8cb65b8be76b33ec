-- What the parts of the check say of a clause under an assignment. `AssumesFalse` and `BecomesFalse` are the inner
-- states of the check, between two literals of its clause.
use Rattle.std.specs.Prelude.{◌≡◌, ◌⊎◌, ◌<◌, ◌^◌, ℕ, List, [], ◌∷◌, ◌++◌, map, Contains}
use Rattle.plain_lits.specs.declared.lit.Lit.{Lit}
use Rattle.plain_lits.specs.Literals.{negation}
use Rattle.plain_lits.specs.HintCheck.{IsFalsified, IsUnit, IsTautology}
use Rattle.plain_lits.specs.declared.check.ClauseStatus.{ClauseStatus}
use Rattle.plain_lits.specs.declared.check.ClauseStatus.TheVariants.{Falsified, Unit as OneUnset, SatisfiedOrOpen}

-- a clause is neither falsified nor unit
pub record IsSatisfiedOrOpen (truths clause : List Lit) : Type 0 where
  pub not_false : IsFalsified negation truths clause → ⊥
  pub not_unit : (unset : Lit) → IsUnit negation truths clause unset → ⊥

-- what a clause is under an assignment
abbrev pub IsStatus : List Lit → List Lit → ClauseStatus → Type 0
IsStatus truths clause Falsified = IsFalsified negation truths clause
IsStatus truths clause (OneUnset unset) = IsUnit negation truths clause unset
IsStatus truths clause SatisfiedOrOpen = IsSatisfiedOrOpen truths clause

-- the variables of a clause have room
abbrev pub HasRoomFor : ℕ → List Lit → Type 0
HasRoomFor vars clause = (l : Lit) → Contains clause l → l.var < vars

-- so do those of each clause
abbrev pub HaveRoomFor : ℕ → List (List Lit) → Type 0
HaveRoomFor vars clauses = (clause : List Lit) → Contains clauses clause → HasRoomFor vars clause

-- just the negations of a clause's literals are true, and no literal stands in it beside its negation
pub record AssumesFalse (clause truths : List Lit) : Type 0 where
  pub plain : IsTautology negation clause → ⊥
  pub there : (l : Lit) → Contains truths l → Contains (map negation clause) l
  pub back : (l : Lit) → Contains (map negation clause) l → Contains truths l

-- a literal was false already, or it became so, being neither true nor false
abbrev pub BecomesFalse : List Lit → List Lit → Lit → Type 0
BecomesFalse old new l =
    (Contains old (negation l) × (new ≡ old)) ⊎ ((Contains old l → ⊥) × (new ≡ old ++ negation l ∷ []))

-- each literal of a clause can be packed
abbrev pub IsPackable : List Lit → Type 0
IsPackable clause = (l : Lit) → Contains clause l → l.var < 2 ^ 31
