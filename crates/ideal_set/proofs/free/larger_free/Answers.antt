use Rattle.std.proofs.Common.{◌∙◌, arith}
use Rattle.ideal_set.proofs.FreeLemmas.{free_beside, if_free, makes_outside, outside_is_side}
use Rattle.goal_lists.proofs.RunLemmas.{ran_as, ran_nothing}
use Rattle.ideal_set.proofs.free.larger_free.Goals as goal

pub search_beside-requires-clause-side : goal.search_beside-requires-clause-side
search_beside-requires-clause-side g c =
    let f = g.O.Oracle.framework c.args.oracle.now in
    outside_is_side f c.args.set.now c.deref.result.now c.members.ensures.kept.numbered
    (c.deref.ensures.value ∙ c.in_ok-side.ensures f c.members.ensures.value)

pub search_beside-requires-clause-beside : goal.search_beside-requires-clause-beside
search_beside-requires-clause-beside g c =
    let f = g.O.Oracle.framework c.args.oracle.now in
    free_beside f c.args.hit.now c.args.set.now c.as_slice.result.now c.as_slice-2.result.now c.deref.result.now
    c.as_slice.ensures.value c.as_slice-2.ensures.value
    (c.deref.ensures.value ∙ c.in_ok-side.ensures f c.members.ensures.value) c.requires.hit c.requires.free

pub returns-clause-larger : goal.returns-clause-larger
returns-clause-larger g c =
    let f = g.O.Oracle.framework c.args.oracle.now in
    if_free f (g.O.Oracle.log c.search_beside.new.oracle) c.args.hit.now c.args.set.now c.as_slice.result.now
    c.as_slice-2.result.now c.deref.result.now c.as_slice.ensures.value c.as_slice-2.ensures.value
    (c.deref.ensures.value ∙ c.in_ok-side.ensures f c.members.ensures.value) c.search_beside.result
    c.search_beside.ensures.found

pub returns-in_err-side-clause-ran : goal.returns-in_err-side-clause-ran
returns-in_err-side-clause-ran g c =
    ran_nothing _ c.from_residual.ensures c.members.ensures.kept (g.met.O.Oracle.stays _)

pub returns-clause-ran : goal.returns-clause-ran
returns-clause-ran g c =
    let f = g.O.Oracle.framework c.args.oracle.now in
    ran_as (makes_outside f c.args.set.now c.deref.result.now c.requires.free.admissible
    (c.deref.ensures.value ∙ c.in_ok-side.ensures f c.members.ensures.value)) (omega arith) c.search_beside.ensures.ran
