-- A clause that has come has its id.
use Rattle.std.proofs.Common.{ℕ, List, [], ◌∷◌, length, arith, ap, length-append}
use Rattle.plain_lits.specs.declared.lit.Lit.{Lit}
use Rattle.plain_lits.specs.HintCheck.{IsNamed}
use Rattle.unit_propagate.specs.Search.{Search, GainsClause}

pub named_gained : (old new : Search) (clause : List Lit) (id : ℕ) → GainsClause old new clause id
    → IsNamed new.clauses id
named_gained old new clause id g = record {
  from_one = omega (arith, g.id_is, ap length g.clauses, length-append old.clauses (clause ∷ []));
  within = omega (arith, g.id_is);
}
