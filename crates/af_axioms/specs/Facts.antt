-- The values of the atoms that a framework alone fixes.
use Rattle.std.specs.Prelude.{◌↔◌, ℕ, Bool, IsTrue, List}
use Rattle.meaning_atoms.specs.semantics.specs.Frameworks.{Framework}
use Rattle.meaning_atoms.specs.declared.atom.Atom.{Atom}
use Rattle.meaning_atoms.specs.declared.atom.AtomLit.{AtomLit}
use Rattle.meaning_atoms.specs.Worlds.{world_of, Holds, IsFact}

-- the framework alone fixes whether the atom is so, and the value says it, whatever the set and the side clauses
pub record IsFactValue (f : Framework) (atom : Atom) (value : Bool) : Type 0 where
  pub fact : IsFact f atom
  pub reading : (s : List ℕ) (sides : List (List AtomLit)) → (IsTrue value ↔ Holds (world_of f s) sides atom)
