-- Which values name an axiom of assumption-based frameworks.
use Rattle.std.specs.Prelude.{◌≡◌, ◌⊎◌, ℕ, ◌≤◌, List, Contains, map}
use Rattle.std.specs.List.Sorted.{IsStrictlyIncreasing}
use Rattle.aba_laws.specs.semantics.specs.Arguments.{IsArgument}
use Rattle.meaning_atoms.specs.declared.aba_axiom.AbaAxiom.{AbaAxiom}
use Rattle.meaning_atoms.specs.declared.aba_axiom.AbaAxiom.TheVariants.{B1, B2, B3, B4, B5, B6, B7, B8, B9, B9Con, B10, B11, B12, B13, B14, B15, B16, B17, B18, B19}
use Rattle.meaning_atoms.specs.declared.loop_rows.LoopRow.{LoopRow}
use Rattle.meaning_atoms.specs.Atoms.{IsAtomOrNone, IsPosition}
use Rattle.meaning_atoms.specs.Axioms.{IsStretch}

-- the atom is that of one of the rows
pub record IsLoopAtom (rows : List LoopRow) (x : ℕ) : Type 0 where
  pub row : LoopRow
  pub member : Contains rows row
  pub is : row.atom ≡ x

-- a rule's number, with 0 or an atom of the rows
pub record IsLoopPair (rows : List LoopRow) (p : ℕ × ℕ) : Type 0 where
  pub rule : IsArgument p.0
  pub body : (p.1 ≡ 0) ⊎ IsLoopAtom rows p.1

-- the rules of the pairs rise
abbrev pub RulesRise : List (ℕ × ℕ) → Type 0
RulesRise pairs = IsStrictlyIncreasing (map (λ p. p.0) pairs)

-- an atom's number, and pairs with rising rules
pub record IsLoopRow (rows : List LoopRow) (row : LoopRow) : Type 0 where
  pub atom : IsArgument row.atom
  pub rise : RulesRise row.pairs
  pub each : (p : ℕ × ℕ) → Contains row.pairs p → IsLoopPair rows p

-- the atoms of the rows rise
abbrev pub AtomsRise : List LoopRow → Type 0
AtomsRise rows = IsStrictlyIncreasing (map (λ r. r.atom) rows)

-- rows whose atoms rise, of which x is one
pub record IsLoop (x : ℕ) (rows : List LoopRow) : Type 0 where
  pub rise : AtomsRise rows
  pub belongs : IsLoopAtom rows x
  pub each : (row : LoopRow) → Contains rows row → IsLoopRow rows row

-- the arguments fit the name's row in the table of axioms
abbrev pub IsAbaAxiom : AbaAxiom → Type 0
IsAbaAxiom (B1 a) = IsArgument a
IsAbaAxiom (B2 a) = IsArgument a
IsAbaAxiom (B3 a) = IsArgument a
IsAbaAxiom (B4 k) = Unit {0}
IsAbaAxiom (B5 k r h) = IsArgument r × IsArgument h
IsAbaAxiom (B6 k r x) = IsArgument r × IsArgument x
IsAbaAxiom (B7 k r i j) = IsStretch r i j
IsAbaAxiom (B8 k r i) = IsArgument r × IsPosition i
IsAbaAxiom (B9 k x) = IsArgument x
IsAbaAxiom (B9Con a c) = IsArgument a × IsAtomOrNone c
IsAbaAxiom (B10 k x i j) = IsStretch x i j
IsAbaAxiom (B11 k x i) = IsArgument x × IsPosition i
IsAbaAxiom (B12 a c) = IsArgument a × IsAtomOrNone c
IsAbaAxiom (B13 a c) = IsArgument a × IsAtomOrNone c
IsAbaAxiom (B14 a) = IsArgument a
IsAbaAxiom (B15 a) = IsArgument a
IsAbaAxiom (B16 part) = (1 ≤ part) × (part ≤ 3)
IsAbaAxiom (B17 k x rows) = IsLoop x rows
IsAbaAxiom (B18 k a i j) = IsStretch a i j
IsAbaAxiom (B19 k a i) = IsArgument a × IsPosition i
