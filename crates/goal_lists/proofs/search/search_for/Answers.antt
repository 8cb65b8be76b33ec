use Rattle.std.proofs.Common.{◌∙◌, subst, sym}
use Rattle.std.specs.Prelude.{IfOk}
use Rattle.oracle_face.specs.Goals.{AreGoals}
use Rattle.oracle_face.specs.Growing.{IsFound}
use Rattle.goal_lists.proofs.AskedGoals.{are_goals}
use Rattle.goal_lists.proofs.RunLemmas.{ran_nothing}
use Rattle.goal_lists.proofs.search.search_for.Goals as goal

pub find-requires : goal.find-requires
find-requires g c =
    let f = g.O.Oracle.framework c.args.oracle.now in
    let sides = (g.O.Oracle.log c.args.oracle.now).sides in
    let wanted = c.args.wanted.now in
    subst (AreGoals f sides) (sym (c.deref.ensures.value ∙ c.in_ok-goals.ensures))
    (are_goals f sides c.args.mode wanted.ins.now wanted.outs.now wanted.ranged.now wanted.asks.now c.requires)

pub returns-clause-found : goal.returns-clause-found
returns-clause-found g c =
    subst (λ goals. IfOk c.find.result (IsFound (g.O.Oracle.framework c.args.oracle.now)
    (g.O.Oracle.log c.find.new.self) goals)) (c.deref.ensures.value ∙ c.in_ok-goals.ensures) c.find.ensures.found

pub returns-in_err-goals-clause-ran : goal.returns-in_err-goals-clause-ran
returns-in_err-goals-clause-ran g c =
    ran_nothing _ c.from_residual.ensures c.members-members.ensures.kept (g.met.O.Oracle.stays _)

pub returns-clause-ran : goal.returns-clause-ran
returns-clause-ran g c = record {
  run = c.find.ensures.run;
  framework = c.find.ensures.framework;
  kept = c.find.ensures.kept;
  follows = c.find.ensures.follows;
}
