use Rattle.std.proofs.Common.{◌∙◌, ap, subst, sym}
use Rattle.std.specs.Prelude.{IfOk}
use Rattle.meaning_atoms.specs.declared.atom.AtomLit.{AtomLit}
use Rattle.oracle_face.specs.Goals.{AreGoals}
use Rattle.oracle_face.specs.Growing.{IsFound}
use Rattle.goal_lists.specs.Asking.{goals_about}
use Rattle.goal_lists.proofs.QueryGoals.{query_are_goals}
use Rattle.goal_lists.proofs.RunLemmas.{ran_nothing}
use Rattle.goal_lists.proofs.search.search_query.Goals as goal

pub find-requires : goal.find-requires
find-requires g c =
    let f = g.O.Oracle.framework c.args.oracle.now in
    let sides = (g.O.Oracle.log c.args.oracle.now).sides in
    let made = λ (l : AtomLit). goals_about c.args.mode l c.args.asks.now in
    subst (AreGoals f sides)
    (sym (c.deref.ensures.value
    ∙ (c.in_ok-goals.ensures ∙ ap made (c.query_literal-literal.ensures f c.is_aba.ensures))))
    (query_are_goals f sides c.args.mode c.args.query c.args.accepted c.args.asks.now c.requires)

pub returns-clause-found : goal.returns-clause-found
returns-clause-found g c =
    let f = g.O.Oracle.framework c.args.oracle.now in
    let made = λ (l : AtomLit). goals_about c.args.mode l c.args.asks.now in
    subst (λ goals. IfOk c.find.result (IsFound f (g.O.Oracle.log c.find.new.self) goals))
    (c.deref.ensures.value
    ∙ (c.in_ok-goals.ensures ∙ ap made (c.query_literal-literal.ensures f c.is_aba.ensures)))
    c.find.ensures.found

pub returns-in_err-goals-clause-ran : goal.returns-in_err-goals-clause-ran
returns-in_err-goals-clause-ran g c =
    ran_nothing _ c.from_residual.ensures c.members-members.ensures.kept (g.met.O.Oracle.stays _)

pub returns-clause-ran : goal.returns-clause-ran
returns-clause-ran g c = record {
  run = c.find.ensures.run;
  framework = c.find.ensures.framework;
  kept = c.find.ensures.kept;
  follows = c.find.ensures.follows;
}
