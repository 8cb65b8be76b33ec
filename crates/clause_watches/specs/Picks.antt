-- Which literals a clause watches: its pair, and how it is chosen.
use Rattle.std.specs.Prelude.{◌≡◌, ◌≢◌, ◌⊎◌, ℕ, ◌+◌, ◌^◌, ◌<◌, ◌≤◌, List, length, take, Contains}
use Rattle.std.specs.Prelude.{Option, Some, None}
use Rattle.plain_lits.specs.declared.lit.Lit.{Lit}
use Rattle.plain_lits.specs.Literals.{negation}
use Rattle.plain_lits.specs.Packed.{packed}
use Rattle.clause_watches.specs.declared.pair.Pair.{Pair}
use Rattle.clause_watches.specs.declared.finding.NewWatch.{NewWatch}
use Rattle.clause_watches.specs.WatchLists.{Listed, list_at, HasMoreRoom}

-- a pair's literals stand in the clause, and a pair of one literal has a clause of no other
pub record IsPairOf (clause : List Lit) (p : Pair) : Type 0 where
  pub first : p.first ≢ p.second → Contains clause p.first
  pub second : p.first ≢ p.second → Contains clause p.second
  pub alone : p.first ≡ p.second → (a b : Lit) → Contains clause a → Contains clause b → a ≡ b

-- what a look for another literal to watch gives: one that isn't false and isn't the other watched one
abbrev pub FindsWatch : List Lit → List Lit → ℕ → Option NewWatch → Type 0
FindsWatch lits clause other None =
    (l : Lit) → Contains clause l → packed l ≢ other → Contains lits (negation l)
FindsWatch lits clause other (Some found) =
    Contains clause found.lit × (packed found.lit ≢ other) × (Contains lits (negation found.lit) → ⊥)

-- the variables of a list are below a number, and can be packed
pub record HasVars (lits : List Lit) (vars : ℕ) : Type 0 where
  pub below : (l : Lit) → Contains lits l → l.var < vars
  pub packs : (l : Lit) → Contains lits l → l.var < 2 ^ 31
  pub fits : vars ≤ 2 ^ 31

-- each list of a clause's literals has room for one more
pub record ClaimsAll (old new : List Listed) (clause : List Lit) : Type 0 where
  pub room : HasMoreRoom old new
  pub more : (l : Lit) → Contains clause l
      → (list_at old (packed l)).uses + 1 ≤ (list_at new (packed l)).uses

-- a literal is the one that is passed over, if any
abbrev pub IsOther : Option Lit → Lit → Type 0
IsOther None l = ⊥
IsOther (Some o) l = l ≡ o

-- a literal isn't false by the first true literals
pub record IsUnfalse (lits : List Lit) (l : Lit) (index : ℕ) : Type 0 where
  pub unfalse : Contains (take index lits) (negation l) → ⊥

-- how many true literals there were before a literal became false; or how many there are, where it isn't false
pub record IsRank (lits : List Lit) (l : Lit) (rank : ℕ) : Type 0 where
  pub within : rank ≤ length lits
  pub before : IsUnfalse lits l rank
  pub after : (n : ℕ) → rank < n → rank < length lits → Contains (take n lits) (negation l)

-- a literal outlasts another: as long as the other wasn't false, it wasn't
pub record Outlasts (lits : List Lit) (l other : Lit) : Type 0 where
  pub each : (n : ℕ) → IsUnfalse lits other n → IsUnfalse lits l n

-- of a clause's literals those of its pair aren't false, or became false last
pub record WatchesLast (lits clause : List Lit) (p : Pair) : Type 0 where
  pub first : (l : Lit) → Contains clause l → l ≢ p.first → l ≢ p.second → Outlasts lits p.first l
  pub second : (l : Lit) → Contains clause l → l ≢ p.first → l ≢ p.second → Outlasts lits p.second l

-- what a look for a literal to watch gives: one that outlasts the others
abbrev pub IsPick : List Lit → List Lit → Option Lit → Option Lit → Type 0
IsPick lits clause other None = (l : Lit) → Contains clause l → IsOther other l
IsPick lits clause other (Some l) =
    Contains clause l × (IsOther other l → ⊥)
    × ((x : Lit) → Contains clause x → (IsOther other x → ⊥) → Outlasts lits l x)

-- a literal outlasts the best so far, if any
abbrev pub IsBetter : List Lit → Option Lit → Lit → Type 0
IsBetter lits None l = Unit {0}
IsBetter lits (Some held) l = Outlasts lits l held

-- there is a best so far, which outlasts a literal
abbrev pub IsBest : List Lit → Option Lit → Lit → Type 0
IsBest lits None l = ⊥
IsBest lits (Some held) l = Outlasts lits held l

-- what the next literal makes of the best so far: it is passed over, or it is the best, or the one before stays so
abbrev pub Considers : List Lit → Option Lit → Option Lit → Lit → Option Lit → Type 0
Considers lits best other l result =
    (IsOther other l × (result ≡ best))
    ⊎ ((IsOther other l → ⊥)
    × (((result ≡ Some l) × IsBetter lits best l) ⊎ ((result ≡ best) × IsBest lits best l)))
