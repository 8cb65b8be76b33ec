-- Clauses over atoms that are kept over numbered variables.
use Rattle.std.specs.Prelude.{◌≡◌, ℕ, Bool, true, false, List, [], ◌∷◌, ◌++◌, length, map, slice_index_or}
use Rattle.plain_lits.specs.declared.lit.Lit.{Lit}
use Rattle.plain_lits.specs.Checking.{HasRoomFor, HaveRoomFor}
use Rattle.meaning_atoms.specs.declared.atom.Atom.{Atom}
use Rattle.meaning_atoms.specs.declared.atom.Atom.TheVariants.{Ad}
use Rattle.meaning_atoms.specs.declared.atom.AtomLit.{AtomLit}

-- the literal over atoms that a literal over variables stands for
abbrev pub lit_over : List Atom → Lit → AtomLit
lit_over atoms l = record { atom = slice_index_or atoms l.var Ad; positive = l.positive }

abbrev pub clause_over : List Atom → List Lit → List AtomLit
clause_over atoms clause = map (lit_over atoms) clause

abbrev pub clauses_over : List Atom → List (List Lit) → List (List AtomLit)
clauses_over atoms clauses = map (clause_over atoms) clauses

-- each variable of the clauses has an atom, and has room where the check assumes literals; it assumes none now
pub record IsBench (atoms : List Atom) (clauses : List (List Lit)) (truths : List Lit) (vars : ℕ) : Type 0 where
  pub known : HaveRoomFor (length atoms) clauses
  pub room : HaveRoomFor vars clauses
  pub idle : truths ≡ []

-- the literals over variables stand for a clause
pub record Spells (atoms : List Atom) (lits : List Lit) (clause : List AtomLit) : Type 0 where
  pub known : HasRoomFor (length atoms) lits
  pub same : clause_over atoms lits ≡ clause

-- atoms may have been added at the end
abbrev pub HasGrown : List Atom → List Atom → Type 0
HasGrown old new = (more : List Atom) × (new ≡ old ++ more)

-- a clause is added where P holds, and else none is
abbrev pub Takes : Type 0 → List (List AtomLit) → List AtomLit → List (List AtomLit) → Bool → Type 0
Takes P before clause after true = P × (after ≡ before ++ clause ∷ [])
Takes P before clause after false = (P → ⊥) × (after ≡ before)
