-- A world as a valuation of atoms.
use Rattle.std.specs.Prelude.{◌≡◌, ◌↔◌, Bool, true, List}
use Rattle.meaning_atoms.specs.declared.atom.Atom.{Atom}
use Rattle.meaning_atoms.specs.declared.atom.AtomLit.{AtomLit}
use Rattle.meaning_atoms.specs.Worlds.{World, Holds}

-- the valuation makes true exactly the atoms that hold in the world, beside these side clauses
abbrev pub IsValuation : World → List (List AtomLit) → (Atom → Bool) → Type 0
IsValuation w sides value = (atom : Atom) → (value atom ≡ true) ↔ Holds w sides atom

-- each world has such a valuation
abbrev pub HasValuation : Type 0
HasValuation = (w : World) (sides : List (List AtomLit)) → (value : Atom → Bool) × IsValuation w sides value
