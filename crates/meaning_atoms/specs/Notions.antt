-- The clauses on the notions that frameworks of both kinds have.
use Rattle.std.specs.Prelude.{ℕ, ◌==◌, if◌then◌else◌, List, [], ◌∷◌}
use Rattle.meaning_atoms.specs.declared.atom.Atom.TheVariants.{Cf, Ad, Co, St}
use Rattle.meaning_atoms.specs.declared.atom.AtomLit.{AtomLit}
use Rattle.meaning_atoms.specs.Literals.{affirmed, denied}

-- the three clauses of A14 and of B16, by their number: which notion has another within it
abbrev pub notion_clause : ℕ → List AtomLit
notion_clause part =
    if part == 1 then denied Ad ∷ affirmed Cf ∷ []
    else if part == 2 then denied Co ∷ affirmed Ad ∷ []
    else denied St ∷ affirmed Co ∷ []
