-- What a model of the needed axioms tells of the set that it is read as, where the framework is abstract.
use Rattle.std.specs.Prelude.{◌≡◌, ◌↔◌, ℕ, List, Contains}
use Rattle.semantics.specs.Framework.{Af}
use Rattle.semantics.specs.Frameworks.{af}
use Rattle.meaning_atoms.specs.declared.atom.Atom.{Atom}
use Rattle.meaning_atoms.specs.declared.atom.Atom.TheVariants.{Member, Live, Tail, Range}
use Rattle.meaning_atoms.specs.declared.atom.AtomLit.{AtomLit}
use Rattle.meaning_atoms.specs.Literals.{affirmed}
use Rattle.meaning_atoms.specs.Worlds.{HoldsOfAf}
use Rattle.oracle_face.specs.Decoding.{IsDecoded, IsModelOf}
use Rattle.oracle_face.specs.Goals.{IsMode}

-- the atom itself is among the literals
abbrev pub Affirms : List AtomLit → Atom → Type 0
Affirms values atom = Contains values (affirmed atom)

-- that a live argument is a member, in the range, or attacked
abbrev pub IsPlace : Af → Atom → Type 0
IsPlace f (Member a) = Contains f.live a
IsPlace f (Range a) = Contains f.live a
IsPlace f (Tail a i) = Contains f.live a × (i ≡ 1)
IsPlace f _ = ⊥

-- the set has each mode that the literals affirm, and each live argument is a member, in the range and attacked exactly
-- where they affirm it
pub record Describes (f : Af) (values : List AtomLit) (s : List ℕ) : Type 0 where
  pub modes : (mode : Atom) → IsMode mode → Affirms values mode → HoldsOfAf f s mode
  pub places : (atom : Atom) → IsPlace f atom → Affirms values atom ↔ HoldsOfAf f s atom

-- a model of the axioms that the framework needs, which is read as the set and affirms each mode that the set has
pub record IsModelOfSet (f : Af) (values : List AtomLit) (s : List ℕ) : Type 0 where
  pub model : IsModelOf (af f) values
  pub read : (a : ℕ) → IsDecoded Live values a ↔ Contains s a
  pub modes : (mode : Atom) → IsMode mode → HoldsOfAf f s mode → Affirms values mode
