-- Steps with the places of their clauses.
use Rattle.std.specs.Prelude.{◌≡◌, ◌⊎◌, ℕ, ◌+◌, ◌-◌, ◌<◌, ◌≤◌, Bool, true, false, List, [], ◌∷◌, ◌++◌, length, map, Contains, slice_index_or, Ok}
use Rattle.plain_lits.specs.HintCheck.{Checks}
use Rattle.semantics.specs.Frameworks.{Framework}
use Rattle.meaning_atoms.specs.declared.atom.Atom.TheVariants.{Ask}
use Rattle.meaning_atoms.specs.declared.atom.AtomLit.{AtomLit}
use Rattle.meaning_atoms.specs.Literals.{denied, negated}
use Rattle.certificate_claims.specs.declared.certificate.Step.{Step}
use Rattle.answer_claims.specs.declared.sides.SideKind.{SideKind}
use Rattle.answer_claims.specs.SideClauses.{side_of, sides_of}
use Rattle.certificate_check.specs.declared.taken.Place.{Place}
use Rattle.certificate_check.specs.declared.taken.Place.TheVariants.{Row, Side}
use Rattle.certificate_check.specs.declared.taken.Taken.{Taken}
use Rattle.certificate_check.specs.Idle.{IsIdle}
use Rattle.certificate_check.specs.Standing.{TakesStep}

-- the clause of a row, and the rows that there are
abbrev pub row_at : List (List AtomLit) → ℕ → List AtomLit
row_at bench n = slice_index_or bench (n - 1) []

pub record IsRow (count n : ℕ) : Type 0 where
  pub from_one : 1 ≤ n
  pub within : n ≤ count

-- the side clause of this number
abbrev pub side_at : Framework → SideKind → List (List ℕ) → ℕ → List AtomLit
side_at f kind sets n = denied (Ask n) ∷ side_of f kind (slice_index_or sets (n - 1) [])

-- the clause at a place
abbrev pub clause_of : Framework → SideKind → List (List ℕ) → List (List AtomLit) → Place → List AtomLit
clause_of f kind sets bench (Row n) = row_at bench n
clause_of f kind sets bench (Side n) = side_at f kind sets n

-- the clauses of the steps
abbrev pub clauses_of : Framework → SideKind → List (List ℕ) → Taken → List (List AtomLit)
clauses_of f kind sets t = map (clause_of f kind sets t.bench) t.places.items

-- a place with a clause, where there are so many rows and sets
abbrev pub IsPlace : ℕ → ℕ → Place → Type 0
IsPlace rows sets (Row n) = IsRow rows n
IsPlace rows sets (Side n) = IsRow sets n

-- a place that may also be that of no row
abbrev pub IsPlaceIn : ℕ → Place → Type 0
IsPlaceIn sets (Row n) = Unit {0}
IsPlaceIn sets (Side n) = IsRow sets n

-- the place of the step that a hint names, or row 0
abbrev pub place_named : List Place → ℕ → Place
place_named places hint = slice_index_or (Row 0 ∷ places) hint (Row 0)

-- the row at a place, or 0 where a side clause has none
abbrev pub row_of : List ℕ → Place → ℕ
row_of sides (Row n) = n
row_of sides (Side n) = slice_index_or (0 ∷ sides) n 0

-- the row of the step that a hint names, or 0
abbrev pub row_named : List Place → List ℕ → ℕ → ℕ
row_named places sides hint = row_of sides (place_named places hint)

-- the row is that of a set's side clause of this number
pub record HasSide (f : Framework) (kind : SideKind) (sets : List (List ℕ)) (bench : List (List AtomLit))
    (number row : ℕ) : Type 0 where
  pub is_row : IsRow (length bench) row
  pub clause : row_at bench row ≡ side_at f kind sets number

-- the steps have places, and the side clauses that are written out have rows
pub record IsTaken (f : Framework) (kind : SideKind) (sets : List (List ℕ)) (t : Taken) : Type 0 where
  pub places : (p : Place) → Contains t.places.items p → IsPlace (length t.bench) (length sets) p
  pub sides : (n : ℕ) → IsRow (length sets) n → (row_of t.sides.items (Side n) ≡ 0)
      ⊎ HasSide f kind sets t.bench n (row_of t.sides.items (Side n))
  pub as_many : length t.sides.items ≡ length sets

-- a side clause at the place has a row, or is of no use beside so many truths
abbrev pub IsSettled : Framework → SideKind → List (List ℕ) → ℕ → List ℕ → Place → Type 0
IsSettled f kind sets limit sides (Row n) = Unit {0}
IsSettled f kind sets limit sides (Side n) = row_of sides (Side n) ≡ 0 → IsIdle limit (side_at f kind sets n)

-- ---- what the calls do

pub record IsUntouched (count : ℕ) (t : Taken) : Type 0 where
  pub bench : t.bench ≡ []
  pub places : t.places.items ≡ []
  pub unmade : (n : ℕ) → row_of t.sides.items (Side n) ≡ 0
  pub as_many : length t.sides.items ≡ count

pub record NotesRow (old new : Taken) : Type 0 where
  pub bench : new.bench ≡ old.bench
  pub places : new.places.items ≡ old.places.items ++ Row (length old.bench) ∷ []
  pub sides : new.sides.items ≡ old.sides.items

pub record NotesSide (number : ℕ) (old new : Taken) : Type 0 where
  pub bench : new.bench ≡ old.bench
  pub places : new.places.items ≡ old.places.items ++ Side number ∷ []
  pub sides : new.sides.items ≡ old.sides.items

pub record AddsClause (clause : List AtomLit) (old new : Taken) : Type 0 where
  pub bench : new.bench ≡ old.bench ++ clause ∷ []
  pub places : new.places.items ≡ old.places.items ++ Row (length old.bench + 1) ∷ []
  pub sides : new.sides.items ≡ old.sides.items

-- the side clause of the number gets its row, the others keep theirs
pub record WritesSide (number : ℕ) (clause : List AtomLit) (old new : Taken) : Type 0 where
  pub bench : new.bench ≡ old.bench ++ clause ∷ []
  pub places : new.places.items ≡ old.places.items
  pub here : row_of new.sides.items (Side number) ≡ length old.bench + 1
  pub others : (n : ℕ) → (n ≡ number → ⊥) → row_of new.sides.items (Side n) ≡ row_of old.sides.items (Side n)
  pub as_many : length new.sides.items ≡ length old.sides.items

-- the rows that the hints name take the clause, or nothing is added
abbrev pub TakesClause : List AtomLit → List ℕ → Taken → Type 0
TakesClause clause hints t =
    (used : ℕ) × Checks negated t.bench clause (map (row_named t.places.items t.sides.items) hints) (Ok used)

abbrev pub AddsDerived : List AtomLit → List ℕ → Taken → Taken → Bool → Type 0
AddsDerived clause hints old new true = TakesClause clause hints old × AddsClause clause old new
AddsDerived clause hints old new false =
    (TakesClause clause hints old → ⊥) × ((new.bench ≡ old.bench)
    × ((new.places.items ≡ old.places.items) × (new.sides.items ≡ old.sides.items)))

-- side clauses may have been written out, and the steps have the clauses that they had
pub record HasWritten (f : Framework) (kind : SideKind) (sets : List (List ℕ)) (old new : Taken) : Type 0 where
  pub rows : IsTaken f kind sets new
  pub places : new.places.items ≡ old.places.items
  pub clauses : clauses_of f kind sets new ≡ clauses_of f kind sets old
  pub kept : (n : ℕ) → row_of new.sides.items (Side n) ≡ 0 → row_of old.sides.items (Side n) ≡ 0

-- and a place is settled
pub record Settles (f : Framework) (kind : SideKind) (sets : List (List ℕ)) (limit : ℕ) (place : Place)
    (old new : Taken) : Type 0 where
  pub written : HasWritten f kind sets old new
  pub settled : IsSettled f kind sets limit new.sides.items place

-- and so are those that the first so many hints name
pub record HasSettled (f : Framework) (kind : SideKind) (sets : List (List ℕ)) (limit : ℕ) (hints : List ℕ)
    (count : ℕ) (old new : Taken) : Type 0 where
  pub written : HasWritten f kind sets old new
  pub settled : (k : ℕ) → k < count → k < length hints
      → IsSettled f kind sets limit new.sides.items (place_named new.places.items (slice_index_or hints k 0))

-- the step is taken or not behind those before it, and the rows stay right
pub record TakesOn (f : Framework) (kind : SideKind) (sets : List (List ℕ)) (old : Taken) (step : Step)
    (new : Taken) (taken : Bool) : Type 0 where
  pub rows : IsTaken f kind sets new
  pub takes : TakesStep f (sides_of f kind sets) (clauses_of f kind sets old) step (clauses_of f kind sets new) taken
