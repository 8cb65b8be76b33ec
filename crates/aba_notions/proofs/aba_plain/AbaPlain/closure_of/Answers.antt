use Rattle.std.proofs.Common.{◌∙◌}
use Rattle.std.proofs.lemmas.Result.{IfOk-weaker}
use Rattle.aba_notions.proofs.AttackLemmas.{closure_whole}
use Rattle.aba_notions.proofs.aba_plain.AbaPlain.closure_of.Goals as goal

pub returns-clause-derived : goal.returns-clause-derived
returns-clause-derived c = rw (← c.self.view_is) (IfOk-weaker c.union.result _ _
    (λ u is. closure_whole _ c.args.set.now c.in_ok-found.found.items c.in_ok-derived.derived u c.self.invariant.form
    c.in_ok-found.ensures (c.in_ok-derived.ensures ∙ c.deref.ensures.value) is) c.union.ensures)
