-- A step of a log with all that it reaches, as the steps of a certificate: numbered anew from 1, and with the side
-- clauses numbered as in a claim.
use Rattle.std.specs.Prelude.{◌≡◌, ℕ, ◌+◌, ◌-◌, ◌<◌, ◌^◌, List, [], length, map, slice_index_or}
use Rattle.lists.specs.Members.{IsSetOf}
use Rattle.meaning_atoms.specs.declared.atom.Atom.{Atom}
use Rattle.meaning_atoms.specs.declared.atom.Atom.TheVariants.{Ask}
use Rattle.meaning_atoms.specs.declared.atom.AtomLit.{AtomLit}
use Rattle.certificate_claims.specs.declared.certificate.Step.{Step}
use Rattle.certificate_claims.specs.declared.certificate.Step.TheVariants.{Axiom, Side, Derived}
use Rattle.certificate_claims.specs.Refutations.{Claim, no_step}
use Rattle.oracle_face.specs.Goals.{IsClaimSide}
use Rattle.oracle_face.specs.Logs.{OracleLog, SideClause, Source, by_axiom, by_side, by_hints, IsNumberOf, IsSameClause}
use Rattle.oracle_face.specs.Logs.{Reaches, side_at, step_at}

-- ---- side clauses

-- where a side clause of the log stands among a claim's, counted from 1; 0 where it is none of them
abbrev pub position_of : List ℕ → ℕ → ℕ
position_of positions n = slice_index_or positions (n - 1) 0

-- the claim has the side clause at this position
pub record StandsAt (claim : Claim) (literals : List AtomLit) (position : ℕ) : Type 0 where
  pub named : IsNumberOf claim.sides position
  pub same : IsSameClause literals (slice_index_or claim.sides (position - 1) [])

-- each side clause of the log has its position in the claim, or 0 where the claim has none with its literals
pub record ArePositions (sides : List SideClause) (claim : Claim) (positions : List ℕ) : Type 0 where
  pub stands : (n : ℕ) → IsNumberOf sides n → 0 < position_of positions n
      → StandsAt claim (side_at sides n).literals (position_of positions n)
  pub found : (n : ℕ) → IsClaimSide sides claim n → 0 < position_of positions n

-- an atom, and a literal, of which a side clause has the number that it has in the claim
abbrev pub moved_atom : List ℕ → Atom → Atom
moved_atom positions (Ask n) = Ask (position_of positions n)
moved_atom positions atom = atom

abbrev pub moved_lit : List ℕ → AtomLit → AtomLit
moved_lit positions l = record { atom = moved_atom positions l.atom; positive = l.positive }

-- ---- steps

-- the number that a step has in the certificate
abbrev pub number_in : List ℕ → ℕ → ℕ
number_in numbers step = slice_index_or numbers step 0

-- the clause has just the literals of the other, moved
abbrev pub IsMovedClause : List ℕ → List AtomLit → List AtomLit → Type 0
IsMovedClause positions clause literals = IsSameClause literals (map (moved_lit positions) clause)

-- the certificate's step is derived, of the literals of the clause, by the hints
pub record IsMovedDerived (positions numbers hints : List ℕ) (clause : List AtomLit) (step : Step) : Type 0 where
  pub literals : List AtomLit
  pub same : IsMovedClause positions clause literals
  pub is : step ≡ Derived literals (map (number_in numbers) hints)

-- the certificate's step says what a step of the log says that has this source and this clause
abbrev pub IsMovedStep : (positions numbers : List ℕ) → Source → List AtomLit → Step → Type 0
IsMovedStep positions numbers (by_axiom name) clause step = step ≡ Axiom name
IsMovedStep positions numbers (by_side n) clause step = step ≡ Side (position_of positions n)
IsMovedStep positions numbers (by_hints hints) clause step = IsMovedDerived positions numbers hints clause step

-- the first so many of the kept steps are numbered from 1
pub record AreNumbered (kept numbers : List ℕ) (count : ℕ) : Type 0 where
  pub each : (i : ℕ) → i < count → number_in numbers (slice_index_or kept i 0) ≡ i + 1

-- the first so many kept steps are numbered, in an array with room for all numbers up to the last
pub record IsNumbering (kept : List ℕ) (last count : ℕ) (numbers : List ℕ) : Type 0 where
  pub room : length numbers ≡ last + 1
  pub so_far : AreNumbered kept numbers count

-- the first so many of the kept steps have their steps in the certificate
pub record AreMoved (log : OracleLog) (positions kept numbers : List ℕ) (count : ℕ) (steps : List Step) : Type 0 where
  pub long : length steps ≡ count
  pub each : (i : ℕ) → i < count
      → IsMovedStep positions numbers (step_at log.steps (slice_index_or kept i 0)).source
      (step_at log.steps (slice_index_or kept i 0)).clause (slice_index_or steps i no_step)

-- the kept steps are those that the step reaches; they are numbered from 1, and each has its step in the certificate
pub record IsTrimmed (log : OracleLog) (step : ℕ) (positions kept numbers : List ℕ) (steps : List Step) : Type 0 where
  pub reached : IsSetOf (Reaches log.steps step) kept
  pub numbered : AreNumbered kept numbers (length kept)
  pub moved : AreMoved log positions kept numbers (length kept) steps

-- the step's number and the positions have 32 bits
pub record HaveSmallNumbers (step : ℕ) (positions : List ℕ) : Type 0 where
  pub step_fits : step < 2 ^ 32
  pub positions_fit : (n : ℕ) → position_of positions n < 2 ^ 32
