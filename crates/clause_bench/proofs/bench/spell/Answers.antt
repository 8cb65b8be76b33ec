use Rattle.std.proofs.Common.{◌∙◌, sym, ap, ◌++◌, ◌∷◌, []}
use Rattle.clause_bench.proofs.BenchLemmas.{grown_more, spells_next}
use Rattle.clause_bench.proofs.bench.spell.Goals as goal

pub loop-literal-preserved : goal.loop-literal-preserved
loop-literal-preserved c = record {
  spelled = spells_next _ _ _ _ _ _ _ _ c.loop-literal-test.true c.loop-literal.invariant.spelled c.in_ok-var.ensures.ok
      c.in_ok-push.ensures.items;
  packed = c.in_ok-push-2.ensures.items ∙ (ap (λ xs. xs ++ c.pack.result ∷ []) c.loop-literal.invariant.packed
      ∙ (ap (λ x. c.loop-literal.lits.items ++ x ∷ []) c.pack.ensures ∙ sym c.in_ok-push.ensures.items));
  grown = grown_more _ _ _ _ _ c.loop-literal.invariant.grown c.in_ok-var.ensures.ok;
}
