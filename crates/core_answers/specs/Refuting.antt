-- Which steps of a log refute a claim.
use Rattle.std.specs.Prelude.{◌≡◌, ◌↔◌, ◌⊎◌, ◌<◌, ◌+◌, ℕ, Bool, true, false, not, List, Contains, length, slice_index_or, IsTrue}
use Rattle.semantics.specs.Frameworks.{Framework}
use Rattle.meaning_atoms.specs.declared.atom.Atom.{Atom}
use Rattle.meaning_atoms.specs.declared.atom.Atom.TheVariants.{Ask}
use Rattle.meaning_atoms.specs.declared.atom.AtomLit.{AtomLit}
use Rattle.meaning_atoms.specs.Literals.{negated}
use Rattle.af_axioms.specs.Facts.{IsFactValue}
use Rattle.oracle_face.specs.Logs.{LogStep, SideClause, IsNumberOf, IsSameClause, no_side, no_step, side_at}
use Rattle.answer_claims.specs.declared.claim.Claim.{Claim}
use Rattle.answer_claims.specs.ClaimParts.{IsGoal}

-- the side clause of this number has the literals of one of the list
pub record IsLikeOne (sides : List SideClause) (list : List (List AtomLit)) (n : ℕ) : Type 0 where
  pub number : IsNumberOf sides n
  pub side : List AtomLit
  pub there : Contains list side
  pub same : IsSameClause (side_at sides n).literals side

-- the numbers are exactly those of such side clauses
pub record HasNumbers (sides : List SideClause) (list : List (List AtomLit)) (own : List ℕ) : Type 0 where
  pub each : (n : ℕ) → Contains own n ↔ IsLikeOne sides list n

-- one of the first side clauses has the number and the literals
pub record IsLikeHere (sides : List SideClause) (literals : List AtomLit) (count n : ℕ) : Type 0 where
  pub index : ℕ
  pub early : index < count
  pub number : n ≡ index + 1
  pub same : IsSameClause (slice_index_or sides index no_side).literals literals

-- the numbers of the first side clauses that have the literals came
pub record AddsLike (sides : List SideClause) (literals : List AtomLit) (count : ℕ) (old new : List ℕ) : Type 0 where
  pub each : (n : ℕ) → Contains new n ↔ (Contains old n ⊎ IsLikeHere sides literals count n)

-- the literal denies one of these side clauses
abbrev pub DeniesOwn : List ℕ → Atom → Bool → Type 0
DeniesOwn own (Ask n) false = Contains own n
DeniesOwn own _ _ = ⊥

-- the literal is false by a fact, by a goal of the claim, or as the denial of one of these side clauses
pub record IsClosedBy (f : Framework) (c : Claim) (own : List ℕ) (l : AtomLit) : Type 0 where
  pub way : IsFactValue f l.atom (not l.positive) ⊎ (IsGoal f c (negated l) ⊎ DeniesOwn own l.atom l.positive)

-- the step is marked, and has only closed literals
pub record RefutesAt (f : Framework) (c : Claim) (own : List ℕ) (steps : List LogStep) (marks : List Bool) (k : ℕ)
    : Type 0 where
  pub within : k < length steps
  pub marked : IsTrue (slice_index_or marks k true)
  pub closed : (l : AtomLit) → Contains (slice_index_or steps k no_step).clause l → IsClosedBy f c own l
