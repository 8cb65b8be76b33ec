use Rattle.std.proofs.Common.{◌∙◌, subst}
use Rattle.std.specs.Prelude.{Contains}
use Rattle.plain_lits.specs.declared.lit.Lit.{Lit}
use Rattle.plain_lits.specs.Literals.{negation}
use Rattle.sleeping_clauses.proofs.Falsifying.{front_more}
use Rattle.sleeping_clauses.proofs.sleepers.is_falsified.Goals as goal

pub loop-packed-preserved : goal.loop-packed-preserved
loop-packed-preserved c =
    let lits = c.args.trail.now.lits in
    front_more c.args.part.now c.loop-packed.packed-index c.packed-item.result (λ l. Contains lits (negation l))
    c.loop-packed-test.true c.loop-packed.invariant
    (subst (λ (l : Lit). Contains lits (negation l)) (c.lit.ensures.lit ∙ c.packed-item.is)
    c.in-False.ensures.value.0)
