-- Literals of a CNF as literals over atoms, which the check numbers as they come: so it has room for the variables that
-- occur, and not for those that a header tells.
use Rattle.std.specs.Prelude.{◌≡◌, ℕ, List, map, Contains}
use Rattle.plain_lits.specs.declared.lit.Lit.{Lit}
use Rattle.meaning_atoms.specs.declared.atom.Atom.{Atom}
use Rattle.meaning_atoms.specs.declared.atom.Atom.TheVariants.{Member}
use Rattle.meaning_atoms.specs.declared.atom.AtomLit.{AtomLit}

-- the literal over atoms that stands for a literal; what its atom says of a framework plays no part
abbrev pub spelled : Lit → AtomLit
spelled l = record { atom = Member l.var; positive = l.positive }

abbrev pub spelled_clause : List Lit → List AtomLit
spelled_clause clause = map spelled clause

abbrev pub spelled_clauses : List (List Lit) → List (List AtomLit)
spelled_clauses clauses = map spelled_clause clauses

-- the variable that an atom stands for
abbrev pub var_of : Atom → ℕ
var_of (Member var) = var
var_of _ = 0

-- the literal that a literal over atoms stands for
abbrev pub lit_of : AtomLit → Lit
lit_of l = record { var = var_of l.atom; positive = l.positive }

abbrev pub clause_of : List AtomLit → List Lit
clause_of clause = map lit_of clause

abbrev pub clauses_of : List (List AtomLit) → List (List Lit)
clauses_of clauses = map clause_of clauses

-- the literal over atoms stands for a literal
abbrev pub IsSpelled : AtomLit → Type 0
IsSpelled l = spelled (lit_of l) ≡ l

-- so does each of the clauses
abbrev pub AreSpelled : List (List AtomLit) → Type 0
AreSpelled clauses = (clause : List AtomLit) (l : AtomLit) → Contains clauses clause → Contains clause l → IsSpelled l
