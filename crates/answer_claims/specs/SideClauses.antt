-- Side clauses by what they say of a set.
use Rattle.std.specs.Prelude.{ℕ, List, map}
use Rattle.semantics.specs.Frameworks.{Framework}
use Rattle.meaning_atoms.specs.declared.atom.AtomLit.{AtomLit}
use Rattle.certificate_claims.specs.SetLiterals.{outside, differs, wider, attacked}
use Rattle.answer_claims.specs.declared.sides.SideKind.{SideKind}
use Rattle.answer_claims.specs.declared.sides.SideKind.TheVariants.{Outside, Differs, Wider, Attacked}

-- the side clause of a set
abbrev pub side_of : Framework → SideKind → List ℕ → List AtomLit
side_of f Outside e = outside f e
side_of f Differs e = differs f e
side_of f Wider e = wider f e
side_of f Attacked e = attacked f e

abbrev pub sides_of : Framework → SideKind → List (List ℕ) → List (List AtomLit)
sides_of f kind sets = map (side_of f kind) sets
