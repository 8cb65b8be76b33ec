use Rattle.std.proofs.Common.{◌∙◌, arith}
use Rattle.goal_lists.proofs.RunLemmas.{ran_as, ran_nothing}
use Rattle.cegar_preferred.proofs.LargestLemmas.{if_larger, larger_beside, makes_outside, outside_is_side}
use Rattle.cegar_preferred.proofs.maximal.larger.Goals as goal

pub search_beside-requires-clause-side : goal.search_beside-requires-clause-side
search_beside-requires-clause-side g c =
    let f = g.O.Oracle.framework c.args.oracle.now in
    outside_is_side f c.args.set.now c.deref.result.now c.members.ensures.kept.numbered
    (c.deref.ensures.value ∙ c.in_ok-side.ensures f c.members.ensures.value)

pub search_beside-requires-clause-beside : goal.search_beside-requires-clause-beside
search_beside-requires-clause-beside g c =
    let f = g.O.Oracle.framework c.args.oracle.now in
    larger_beside f c.args.set.now c.as_slice.result.now c.deref.result.now c.as_slice.ensures.value
    (c.deref.ensures.value ∙ c.in_ok-side.ensures f c.members.ensures.value) c.requires

pub returns-clause-larger : goal.returns-clause-larger
returns-clause-larger g c =
    let f = g.O.Oracle.framework c.args.oracle.now in
    if_larger f (g.O.Oracle.log c.search_beside.new.oracle) c.args.set.now c.as_slice.result.now c.deref.result.now
    c.as_slice.ensures.value (c.deref.ensures.value ∙ c.in_ok-side.ensures f c.members.ensures.value)
    c.search_beside.result c.search_beside.ensures.found

pub returns-in_err-side-clause-ran : goal.returns-in_err-side-clause-ran
returns-in_err-side-clause-ran g c =
    ran_nothing _ c.from_residual.ensures c.members.ensures.kept (g.met.O.Oracle.stays _)

pub returns-clause-ran : goal.returns-clause-ran
returns-clause-ran g c =
    let f = g.O.Oracle.framework c.args.oracle.now in
    ran_as (makes_outside f c.args.set.now c.deref.result.now c.requires
    (c.deref.ensures.value ∙ c.in_ok-side.ensures f c.members.ensures.value)) (omega arith) c.search_beside.ensures.ran
