use Rattle.std.proofs.Common.{◌∙◌, arith}
use Rattle.goal_lists.proofs.RunLemmas.{ran_as, ran_nothing}
use Rattle.semi_stable.proofs.WidestLemmas.{if_wider, look_at, look_beside, makes_wider, wider_is_side}
use Rattle.semi_stable.proofs.widest.wider.Goals as goal

pub search_beside-requires-clause-side : goal.search_beside-requires-clause-side
search_beside-requires-clause-side g c =
    let f = g.O.Oracle.framework c.args.oracle.now in
    wider_is_side f c.args.set.now c.deref.result.now c.members.ensures.kept.numbered
    (c.deref.ensures.value
    ∙ c.in_ok-side.ensures f c.args.set.now c.requires.kind c.members.ensures.value c.requires.range)

pub search_beside-requires-clause-beside : goal.search_beside-requires-clause-beside
search_beside-requires-clause-beside g c =
    let f = g.O.Oracle.framework c.args.oracle.now in
    look_beside f c.args.mode c.args.set.now c.args.range.now c.as_slice.result.now c.deref.result.now
    c.mode_atom.result c.as_slice.ensures.value
    (c.deref.ensures.value
    ∙ c.in_ok-side.ensures f c.args.set.now c.requires.kind c.members.ensures.value c.requires.range)
    c.mode_atom.ensures
    (look_at f c.args.mode c.args.set.now c.args.range.now c.requires.kind c.members.ensures.kept.numbered
    c.requires.holds c.requires.range)

pub returns-clause-wider : goal.returns-clause-wider
returns-clause-wider g c =
    let f = g.O.Oracle.framework c.args.oracle.now in
    if_wider f (g.O.Oracle.log c.search_beside.new.oracle) c.args.mode c.args.set.now c.args.range.now
    c.as_slice.result.now c.deref.result.now c.mode_atom.result c.as_slice.ensures.value
    (c.deref.ensures.value
    ∙ c.in_ok-side.ensures f c.args.set.now c.requires.kind c.members.ensures.value c.requires.range)
    c.mode_atom.ensures
    (look_at f c.args.mode c.args.set.now c.args.range.now c.requires.kind c.members.ensures.kept.numbered
    c.requires.holds c.requires.range)
    c.search_beside.result c.search_beside.ensures.found

pub returns-in_err-side-clause-ran : goal.returns-in_err-side-clause-ran
returns-in_err-side-clause-ran g c =
    ran_nothing _ c.from_residual.ensures c.members.ensures.kept (g.met.O.Oracle.stays _)

pub returns-clause-ran : goal.returns-clause-ran
returns-clause-ran g c =
    let f = g.O.Oracle.framework c.args.oracle.now in
    ran_as (makes_wider f c.args.mode c.args.set.now c.deref.result.now c.requires.holds
    (c.deref.ensures.value
    ∙ c.in_ok-side.ensures f c.args.set.now c.requires.kind c.members.ensures.value c.requires.range))
    (omega arith) c.search_beside.ensures.ran
