use Rattle.std.proofs.Common.{◌∙◌}
use Rattle.std.proofs.lemmas.List.{get_or_default}
use Rattle.oracle_face.specs.Logs.{no_side}
use Rattle.core_answers.proofs.RefuteLemmas.{like_more, none_like}
use Rattle.core_answers.proofs.refuting.add_like.Goals as goal

pub loop-index-init : goal.loop-index-init
loop-index-init c = none_like _ _ _

pub loop-index-preserved : goal.loop-index-preserved
loop-index-preserved c = like_more c.args.sides.now c.args.literals.now c.loop-index.index c.in_ok-number.number
    c.args.own.now c.loop-index.own c.add_if_like.new.own c.index-sides-index.result c.loop-index.invariant
    c.in_ok-number.ensures
    (c.index-sides-index.is
    ∙ get_or_default c.args.sides.now c.loop-index.index c.index-sides-index.result no_side c.loop-index-test.true)
    c.in_ok-add_if_like.ensures
