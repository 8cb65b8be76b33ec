-- Words on literals and clauses.
use Rattle.std.specs.Prelude.{if◌then◌else◌, Bool, true, false, not, List, Contains}
use Rattle.meaning_atoms.specs.declared.atom.Atom.{Atom}
use Rattle.meaning_atoms.specs.declared.atom.Atom.TheVariants.{Ask}
use Rattle.meaning_atoms.specs.declared.atom.AtomLit.{AtomLit}
use Rattle.meaning_atoms.specs.Worlds.{IsAsk}

-- the literal that says the atom
abbrev pub affirmed : Atom → AtomLit
affirmed atom = record { atom = atom; positive = true }

-- the literal that says that the atom is not so
abbrev pub denied : Atom → AtomLit
denied atom = record { atom = atom; positive = false }

-- the literal that says the opposite
abbrev pub negated : AtomLit → AtomLit
negated l = record { atom = l.atom; positive = not l.positive }

-- whether the literal is true where the valuation says which atoms are
abbrev pub lit_value : (Atom → Bool) → AtomLit → Bool
lit_value value l = if l.positive then value l.atom else not (value l.atom)

-- no literal speaks of a side clause
abbrev pub AsksNothing : List AtomLit → Type 0
AsksNothing clause = (l : AtomLit) → Contains clause l → IsAsk l.atom → ⊥

-- the test that an atom is not the number of a side clause
abbrev pub not_ask : Atom → Bool
not_ask (Ask n) = false
not_ask _ = true
