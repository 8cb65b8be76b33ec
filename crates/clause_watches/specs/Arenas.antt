-- Clauses with their watched pairs, as contracts see them.
use Rattle.std.specs.Prelude.{ℕ, List, ◌∷◌, false, map, slice_index_or}
use Rattle.plain_lits.specs.declared.lit.Lit.{Lit}
use Rattle.clause_watches.specs.declared.arena.Watched.{Watched}
use Rattle.clause_watches.specs.declared.pair.Pair.{Pair}

-- the clauses in the order of their ids, and the watched pair of each
pub record Store : Type 0 where
  pub clauses : List (List Lit)
  pub pairs : List Pair

-- what stands where there is no literal
abbrev pub blank : Lit
blank = record { var = 0; positive = false }

-- a pair that watches nothing
abbrev pub no_pair : Pair
no_pair = record { first = blank; second = blank }

-- the pair of a clause by its id; an id that no clause has gives a pair that watches nothing
abbrev pub pair_of : List Pair → ℕ → Pair
pair_of pairs id = slice_index_or (no_pair ∷ pairs) id no_pair

-- the watched pairs of what is kept of each clause
abbrev pub pairs_in : List Watched → List Pair
pairs_in watched = map (λ (w : Watched). w.pair) watched
