-- Where the side clauses of a log stand in a claim, from the numbers that the claim's side clauses have in the log.
use Rattle.std.specs.Prelude.{◌≡◌, ◌≢◌, ℕ, ◌+◌, ◌-◌, ◌<◌, ◌≤◌, List, [], length, Contains, slice_index_or, Option, Some}
use Rattle.std.specs.Prelude.{None}
use Rattle.semantics.specs.Frameworks.{Framework}
use Rattle.meaning_atoms.specs.declared.atom.AtomLit.{AtomLit}
use Rattle.certificate_claims.specs.Refutations.{Claim}
use Rattle.oracle_face.specs.Logs.{OracleLog, SideClause, IsLog, IsNumberOf, IsSameClause, side_at}
use Rattle.certificate_making.specs.Trimmed.{ArePositions, position_of}

-- the number of the side clause of the log that has the literals, if there is one
abbrev pub IsAskOf : List SideClause → List AtomLit → Option ℕ → Type 0
IsAskOf sides literals (Some n) = IsNumberOf sides n × IsSameClause (side_at sides n).literals literals
IsAskOf sides literals None =
    (n : ℕ) → IsNumberOf sides n → IsSameClause (side_at sides n).literals literals → ⊥

-- these are the numbers that the claim's side clauses have in the log, in order
pub record AreAsksOf (sides : List SideClause) (claim : Claim) (asks : List (Option ℕ)) : Type 0 where
  pub long : length asks ≡ length claim.sides
  pub each : (i : ℕ) → i < length asks
      → IsAskOf sides (slice_index_or claim.sides i []) (slice_index_or asks i None)

-- each is the number of one of so many side clauses
pub record AreWithin (asks : List (Option ℕ)) (sides : ℕ) : Type 0 where
  pub each : (n : ℕ) → Contains asks (Some n) → (0 < n) × (n ≤ sides)

-- from an index on, the numbers have their positions, each the first where it stands
pub record HavePositions (asks : List (Option ℕ)) (sides from : ℕ) (positions : List ℕ) : Type 0 where
  pub room : length positions ≡ sides
  pub back : (n : ℕ) → 0 < n → 0 < position_of positions n
      → (from < position_of positions n) × (position_of positions n ≤ length asks)
      × (slice_index_or asks (position_of positions n - 1) None ≡ Some n)
  pub first : (i n : ℕ) → from ≤ i → i < length asks → slice_index_or asks i None ≡ Some n
      → (0 < position_of positions n) × (position_of positions n ≤ i + 1)

-- the side clause of the number has this position, and all others keep theirs
pub record GivesPosition (n position : ℕ) (old new : List ℕ) : Type 0 where
  pub long : length new ≡ length old
  pub here : position_of new n ≡ position
  pub others : (m : ℕ) → 0 < m → m ≢ n → position_of new m ≡ position_of old m

-- so has that of a number, if there is one
abbrev pub GivesTo : Option ℕ → ℕ → List ℕ → List ℕ → Type 0
GivesTo None position old new = new ≡ old
GivesTo (Some n) position old new = GivesPosition n position old new

-- these are the positions in each claim whose side clauses have these numbers in a log
abbrev pub ArePositionsIn : List (Option ℕ) → List ℕ → Type 0
ArePositionsIn asks positions = (f : Framework) (log : OracleLog) (claim : Claim) → IsLog f log
    → AreAsksOf log.sides claim asks → ArePositions log.sides claim positions
