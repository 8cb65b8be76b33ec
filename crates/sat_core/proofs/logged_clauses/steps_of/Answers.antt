use Rattle.std.proofs.Common.{◌<◌, ◌-◌, get_or, length, arith}
use Rattle.std.proofs.lemmas.List.{get_or_read}
use Rattle.std.proofs.lemmas.List.Elements.{Contains-get_or}
use Rattle.sat_core.proofs.Serving.{steps_more}
use Rattle.sat_core.proofs.logged_clauses.steps_of.Goals as goal

pub overflow_sub-index : goal.overflow_sub-index
overflow_sub-index c =
    let some = c.requires.from_one _ (Contains-get_or c.args.ids.now c.loop-id.id-index 0 c.loop-id-test.true) in
    omega (arith, some)

pub bounds-active-index : goal.bounds-active-index
bounds-active-index c =
    let there = Contains-get_or c.args.ids.now c.loop-id.id-index 0 c.loop-id-test.true in
    let some = c.requires.from_one _ there in
    let within = c.requires.within _ there in
    omega (arith, some, within)

pub loop-id-preserved : goal.loop-id-preserved
loop-id-preserved c =
    let there = Contains-get_or c.args.ids.now c.loop-id.id-index 0 c.loop-id-test.true in
    let some = c.requires.from_one _ there in
    let within = c.requires.within _ there in
    let at = get_or c.args.ids.now c.loop-id.id-index 0 - 1 in
    let lt : at < length c.args.active.now = omega (arith, some, within) in
    steps_more c.args.active.now c.args.ids.now _ _ c.loop-id.id-index _ c.loop-id-test.true c.loop-id.invariant
    c.in_ok-push.ensures.ok (get_or_read c.args.active.now at _ lt c.index-active-index.is 0)
