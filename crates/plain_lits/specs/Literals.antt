-- Literals over numbered variables, and clauses as sets of them in rising order.
use Rattle.std.specs.Prelude.{◌≡◌, ℕ, ◌<◌, ◌↔◌, ◌⊎◌, List, length, Contains, slice_index_or, true, false, not}
use Rattle.plain_lits.specs.declared.lit.Lit.{Lit}

-- the negation of a literal
abbrev pub negation : Lit → Lit
negation l = record { var = l.var; positive = not l.positive }

-- the one comes before the other: by the variable, and of one variable the negation first
abbrev pub IsLitBefore : Lit → Lit → Type 0
IsLitBefore a b = (a.var < b.var) ⊎ ((a.var ≡ b.var) × (a.positive ≡ false) × (b.positive ≡ true))

-- each literal comes before those after it, so that none is repeated
pub record LitsRise (lits : List Lit) : Type 0 where
  pub order : (i j : ℕ) (d : Lit) → i < j → j < length lits
      → IsLitBefore (slice_index_or lits i d) (slice_index_or lits j d)

-- a clause that has just the given literals, each once and in order
pub record IsClauseOf (given clause : List Lit) : Type 0 where
  pub rises : LitsRise clause
  pub members : (l : Lit) → Contains clause l ↔ Contains given l
