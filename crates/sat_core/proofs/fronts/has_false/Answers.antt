use Rattle.std.proofs.Common.{get_or, subst, sym}
use Rattle.std.specs.Prelude.{Contains}
use Rattle.std.proofs.lemmas.List.{take_all}
use Rattle.plain_lits.specs.Literals.{negation}
use Rattle.sleeping_clauses.proofs.Falsifying.{front_more, no_lit}
use Rattle.sat_core.proofs.Fronting.{not_false}
use Rattle.sat_core.proofs.fronts.has_false.Goals as goal

pub loop-lit-preserved : goal.loop-lit-preserved
loop-lit-preserved c =
    let lits = c.args.search.now.lits in
    front_more c.args.lits.now c.loop-lit.lit-index no_lit (λ x. Contains lits (negation x) → ⊥)
    c.loop-lit-test.true c.loop-lit.invariant
    (not_false lits (get_or c.args.lits.now c.loop-lit.lit-index no_lit) _ c.value.ensures.value c.in_default.not-False)

pub returns : goal.returns
returns c = λ x there. c.loop-lit.invariant x
    (subst (λ xs. Contains xs x) (sym (take_all c.loop-lit.lit-index c.args.lits.now c.loop-lit-test.false)) there)
