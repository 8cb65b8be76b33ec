use Rattle.std.proofs.Common.{◌∙◌, arith}
use Rattle.std.proofs.lemmas.Result.{IfOk-from_err}
use Rattle.certificate_claims.specs.SetLiterals.{wider}
use Rattle.goal_lists.proofs.RunLemmas.{obliged, ran_as, ran_nothing}
use Rattle.goal_lists.proofs.SideLemmas.{if_ask}
use Rattle.semi_stable.proofs.WidestLemmas.{makes_wider, wider_is_side}
use Rattle.semi_stable.proofs.widest.oblige_wider.Goals as goal

pub oblige-requires : goal.oblige-requires
oblige-requires g c =
    let f = g.O.Oracle.framework c.args.oracle.now in
    wider_is_side f c.args.widest.now.set c.deref.result.now c.members.ensures.kept.numbered
    (c.deref.ensures.value
    ∙ c.in_ok-side.ensures f c.args.widest.now.set c.requires.kind c.members.ensures.value c.requires.range)

pub returns-in_err-side-clause-asked : goal.returns-in_err-side-clause-asked
returns-in_err-side-clause-asked g c = IfOk-from_err _ _ c.from_residual.ensures.0

pub returns-in_err-side-clause-ran : goal.returns-in_err-side-clause-ran
returns-in_err-side-clause-ran g c =
    ran_nothing _ c.from_residual.ensures c.members.ensures.kept (g.met.O.Oracle.stays _)

pub returns-clause-asked : goal.returns-clause-asked
returns-clause-asked g c =
    let f = g.O.Oracle.framework c.args.oracle.now in
    let e = c.args.widest.now.set in
    if_ask c.deref.result.now (wider f e) _ _ c.oblige.result
    (c.deref.ensures.value
    ∙ c.in_ok-side.ensures f e c.requires.kind c.members.ensures.value c.requires.range) c.oblige.ensures.obliges

pub returns-clause-ran : goal.returns-clause-ran
returns-clause-ran g c =
    let f = g.O.Oracle.framework c.args.oracle.now in
    let e = c.args.widest.now.set in
    let call = c.oblige.ensures in
    ran_as (makes_wider f c.args.mode e c.deref.result.now c.requires.has_mode
    (c.deref.ensures.value ∙ c.in_ok-side.ensures f e c.requires.kind c.members.ensures.value c.requires.range))
    (omega arith) (obliged c.deref.result.now e call.run call.framework call.kept call.follows)
