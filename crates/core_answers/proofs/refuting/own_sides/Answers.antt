use Rattle.std.proofs.Common.{◌∙◌}
use Rattle.edit_rules.specs.Kinds.{framework_of}
use Rattle.core_answers.proofs.RefuteLemmas.{behind_first, none_numbered, numbered_all, numbered_more}
use Rattle.core_answers.proofs.refuting.own_sides.Goals as goal

pub loop-index-init : goal.loop-index-init
loop-index-init c = rw c.new-own.ensures (none_numbered c.args.sides.now)

pub loop-index-preserved : goal.loop-index-preserved
loop-index-preserved c = numbered_more (framework_of c.args.framework.now) c.args.kind c.args.sides.now c.args.sets.now
    c.loop-index.index c.index-sets-index.result _ c.loop-index.own c.add_like.new.own c.loop-index-test.true
    c.index-sets-index.is (behind_first _ _ _ (c.as_slice.ensures.value ∙ c.in_ok-clause.ensures))
    c.loop-index.invariant
    c.in_ok-add_like.ensures

pub returns : goal.returns
returns c = numbered_all (framework_of c.args.framework.now) c.args.kind c.args.sides.now c.args.sets.now
    c.loop-index.index c.loop-index.own c.loop-index-test.false c.loop-index.invariant
