use Rattle.std.proofs.Common.{◌∙◌, arith}
use Rattle.std.proofs.lemmas.Result.{IfOk-from_err}
use Rattle.certificate_claims.specs.SetLiterals.{differs}
use Rattle.goal_lists.proofs.RunLemmas.{obliged, ran_as, ran_nothing}
use Rattle.goal_lists.proofs.SideLemmas.{if_ask}
use Rattle.enumerate_block.proofs.ModeLemmas.{base_members, differs_is_side, makes_differs}
use Rattle.enumerate_block.proofs.with_mode.oblige_differs.Goals as goal

pub oblige-requires : goal.oblige-requires
oblige-requires g c =
    let f = g.O.Oracle.framework c.args.oracle.now in
    differs_is_side f c.args.set.now c.deref.result.now c.members.ensures.kept.numbered
    (base_members f c.args.set.now c.args.mode c.requires)
    (c.deref.ensures.value ∙ c.in_ok-side.ensures f c.members.ensures.value)

pub returns-in_err-side-clause-asked : goal.returns-in_err-side-clause-asked
returns-in_err-side-clause-asked g c = IfOk-from_err _ _ c.from_residual.ensures.0

pub returns-in_err-side-clause-ran : goal.returns-in_err-side-clause-ran
returns-in_err-side-clause-ran g c =
    ran_nothing _ c.from_residual.ensures c.members.ensures.kept (g.met.O.Oracle.stays _)

pub returns-clause-asked : goal.returns-clause-asked
returns-clause-asked g c =
    let f = g.O.Oracle.framework c.args.oracle.now in
    if_ask c.deref.result.now (differs f c.args.set.now) _ _ c.oblige.result
    (c.deref.ensures.value ∙ c.in_ok-side.ensures f c.members.ensures.value) c.oblige.ensures.obliges

pub returns-clause-ran : goal.returns-clause-ran
returns-clause-ran g c =
    let f = g.O.Oracle.framework c.args.oracle.now in
    let call = c.oblige.ensures in
    ran_as (makes_differs f c.args.mode c.args.set.now c.deref.result.now c.requires
    (c.deref.ensures.value ∙ c.in_ok-side.ensures f c.members.ensures.value))
    (omega arith) (obliged c.deref.result.now c.args.set.now call.run call.framework call.kept call.follows)
