use Rattle.std.proofs.Common.{arith, sym, subst, ◌∙◌}
use Rattle.lrat_text.specs.CnfText.{Formula}
use Rattle.lrat_text.specs.Tables.{IsBelow}
use Rattle.lrat_text.proofs.Spellings.{spelled_takes, still_spelled, cut_off}
use Rattle.lrat_text.proofs.spelled.Spelled.derive.Goals as goal

pub spell-requires : goal.spell-requires
spell-requires c = λ l m.
    let below = subst (λ (f : Formula). IsBelow f.vars c.args.clause.now) (sym c.self.view_is) c.requires in
    let low = below l m in
    let few = c.self.invariant.few in
    omega (arith, low, few)

pub invariant_of-self-in_err-passes : goal.invariant_of-self-in_err-passes
invariant_of-self-in_err-passes c = cut_off _ _ c.self.invariant.few

pub invariant_of-self-2 : goal.invariant_of-self-2
invariant_of-self-2 c =
    still_spelled c.self.inside.vars c.self.inside.bench c.derive.new.self c.as_slice.result.now c.args.clause.now _
    c.in_ok-passes.passes c.self.invariant.few (c.self.invariant.spelled c.if-not-self.false)
    (c.as_slice.ensures.value ∙ c.in_ok-spell.ensures) c.in_ok-passes.ensures

pub returns : goal.returns
returns c =
    rw (← c.self.view_is) (
    spelled_takes c.self.inside.vars c.self.inside.bench c.derive.new.self c.as_slice.result.now c.args.clause.now
    c.args.hints.now c.in_ok-passes.passes (c.self.invariant.spelled c.if-not-self.false)
    (c.as_slice.ensures.value ∙ c.in_ok-spell.ensures) c.in_ok-passes.ensures
    )
