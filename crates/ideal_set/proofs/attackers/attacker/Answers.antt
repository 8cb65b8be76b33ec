use Rattle.std.proofs.Common.{◌∙◌, arith}
use Rattle.ideal_set.proofs.IdealLemmas.{attack_beside, attacked_is_side, if_asked, if_attack}
use Rattle.ideal_set.proofs.IdealLemmas.{makes_attacked}
use Rattle.goal_lists.proofs.RunLemmas.{ran_as, ran_nothing}
use Rattle.ideal_set.proofs.attackers.attacker.Goals as goal

pub search_beside-requires-clause-side : goal.search_beside-requires-clause-side
search_beside-requires-clause-side g c =
    let f = g.O.Oracle.framework c.args.oracle.now in
    attacked_is_side f c.args.set.now c.deref.result.now c.members-members.ensures.kept.numbered
    c.requires (c.deref.ensures.value ∙ c.in_ok-side.ensures f c.is_aba.ensures)

pub search_beside-requires-clause-beside : goal.search_beside-requires-clause-beside
search_beside-requires-clause-beside g c =
    let f = g.O.Oracle.framework c.args.oracle.now in
    attack_beside f c.args.set.now c.deref.result.now
    (c.deref.ensures.value ∙ c.in_ok-side.ensures f c.is_aba.ensures)
    c.requires

pub returns-clause-attacks : goal.returns-clause-attacks
returns-clause-attacks g c =
    let f = g.O.Oracle.framework c.args.oracle.now in
    if_attack f (g.O.Oracle.log c.search_beside.new.oracle) c.args.set.now c.deref.result.now
    c.members-members.ensures.kept.numbered
    (c.deref.ensures.value ∙ c.in_ok-side.ensures f c.is_aba.ensures)
    c.search_beside.result c.search_beside.ensures.found

pub returns-clause-asked : goal.returns-clause-asked
returns-clause-asked g c =
    let f = g.O.Oracle.framework c.args.oracle.now in
    if_asked f (g.O.Oracle.log c.search_beside.new.oracle) c.args.set.now c.deref.result.now
    (c.deref.ensures.value ∙ c.in_ok-side.ensures f c.is_aba.ensures)
    c.search_beside.result c.search_beside.ensures.found

pub returns-in_err-side-clause-ran : goal.returns-in_err-side-clause-ran
returns-in_err-side-clause-ran g c =
    ran_nothing _ c.from_residual.ensures c.members-members.ensures.kept (g.met.O.Oracle.stays _)

pub returns-clause-ran : goal.returns-clause-ran
returns-clause-ran g c =
    let f = g.O.Oracle.framework c.args.oracle.now in
    ran_as (makes_attacked f c.args.set.now c.deref.result.now c.requires
    (c.deref.ensures.value ∙ c.in_ok-side.ensures f c.is_aba.ensures))
    (omega arith) c.search_beside.ensures.ran
