use Rattle.std.proofs.lemmas.Result.{IfOk-weaker}
use Rattle.ideal_set.proofs.PartLemmas.{largest_is, unstruck}
use Rattle.ideal_set.proofs.part.largest_part.Goals as goal

pub returns : goal.returns
returns c =
    let f = c.args.plain.now in
    let round = c.in_ok-round.round in
    let g = c.in_ok-grounded.grounded.set in
    let grounded = c.in_ok-grounded.ensures.grounded in
    IfOk-weaker c.minus-3.result _ _
    (λ part more. largest_is f round c.args.set.now c.args.without.now c.in_ok-left.left g part
    c.live-live.ensures.form.form c.requires c.in_ok-left.ensures c.in_ok-round.ensures grounded
    (unstruck c.in_ok-left.left round g c.in_ok-range.range c.in_ok-struck.struck part
    grounded.complete.admissible.conflict_free c.in_ok-range.ensures c.in_ok-struck.ensures more))
    c.minus-3.ensures
