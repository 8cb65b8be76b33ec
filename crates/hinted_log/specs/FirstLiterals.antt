-- The first literals of clauses.
use Rattle.std.specs.Prelude.{◌≡◌, List, Option, map, slice_get}
use Rattle.plain_lits.specs.declared.lit.Lit.{Lit}

-- a clause's first literal, if it has one
abbrev pub first_of : List Lit → Option Lit
first_of clause = slice_get clause 0

-- the first literals of clauses, in their order
pub record AreFirsts (clauses : List (List Lit)) (firsts : List (Option Lit)) : Type 0 where
  pub same : firsts ≡ map first_of clauses
