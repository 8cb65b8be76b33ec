use Rattle.std.proofs.Common.{◌≡◌, ◌++◌}
use Rattle.std.specs.Prelude.{map, take}
use Rattle.aba_axioms.specs.AbaTable.{pair_literal}
use Rattle.aba_axioms.proofs.loop_clause.push_pairs.Given as goal

-- the literals of the pairs so far
abbrev pub invariant-loop-pair : goal.invariant-loop-pair
invariant-loop-pair l = l.clause ≡ l.initial.clause ++ map (pair_literal l.fn.closure) (take l.pair-index l.fn.pairs)
