-- How the table of atoms grows where literals over atoms get variables.
use Rattle.std.specs.Prelude.{◌≡◌, ◌++◌, List, length, filter, Bool, Contains}
use Rattle.std.specs.Prelude.{nat_lt}
use Rattle.plain_lits.specs.declared.lit.Lit.{Lit}
use Rattle.plain_lits.specs.Checking.{HasRoomFor}
use Rattle.meaning_atoms.specs.declared.atom.Atom.{Atom}
use Rattle.meaning_atoms.specs.declared.atom.AtomLit.{AtomLit}
use Rattle.oracle_face.specs.Logs.{IsSameClause}
use Rattle.atom_solver.specs.Lifted.{atoms_of}

-- some literal of a list is about the atom
pub record IsAbout (literals : List AtomLit) (atom : Atom) : Type 0 where
  pub literal : AtomLit
  pub there : Contains literals literal
  pub is : literal.atom ≡ atom

-- the table keeps its atoms, and gains some that literals of a list are about
pub record Extends (literals : List AtomLit) (old new : List Atom) : Type 0 where
  pub more : List Atom
  pub is : new ≡ old ++ more
  pub about : (atom : Atom) → Contains more atom → IsAbout literals atom

-- literals come that stand for those of a list, in their order
pub record AddsLits (atoms : List Atom) (literals : List AtomLit) (old new : List Lit) : Type 0 where
  pub more : List Lit
  pub is : new ≡ old ++ more
  pub known : HasRoomFor (length atoms) more
  pub stand : atoms_of atoms more ≡ literals

-- whether a literal has an atom
abbrev pub has_atom : List Atom → Lit → Bool
has_atom atoms l = nat_lt l.var (length atoms)

-- the literals that have atoms, over atoms
abbrev pub told : List Atom → List Lit → List AtomLit
told atoms lits = atoms_of atoms (filter (has_atom atoms) lits)

-- a clause stands for literals: it has just those that stand for theirs
pub record StandsFor (atoms : List Atom) (literals : List AtomLit) (clause : List Lit) : Type 0 where
  pub known : HasRoomFor (length atoms) clause
  pub same : IsSameClause (atoms_of atoms clause) literals
