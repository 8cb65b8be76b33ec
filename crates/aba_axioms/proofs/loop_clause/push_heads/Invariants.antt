use Rattle.std.proofs.Common.{◌≡◌, ◌++◌}
use Rattle.std.specs.Prelude.{drop, map}
use Rattle.aba_axioms.specs.AbaTable.{other_heads}
use Rattle.aba_axioms.proofs.loop_clause.push_heads.Given as goal

-- what is still to be added begins at the present position, with the pairs that are left
abbrev pub invariant-loop-pair : goal.invariant-loop-pair
invariant-loop-pair l =
    l.initial.clause ++ other_heads l.fn.atom 1 (map (λ p. p.0) l.fn.pairs)
    ≡ l.clause ++ other_heads l.fn.atom l.begin (map (λ p. p.0) (drop l.pair-index l.fn.pairs))
