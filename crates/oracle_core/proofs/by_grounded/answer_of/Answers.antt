use Rattle.iccma_tasks.specs.declared.task.Problem.TheVariants.{Credulous, Sceptical}
use Rattle.edit_rules.specs.Kinds.{framework_of}
use Rattle.oracle_core.proofs.GroundedLemmas.{answer_said}
use Rattle.oracle_core.proofs.by_grounded.answer_of.Goals as goal

pub returns-in_ok-accepted-in-Credulous-Some : goal.returns-in_ok-accepted-in-Credulous-Some
returns-in_ok-accepted-in-Credulous-Some c =
    answer_said (framework_of c.args.framework.now) c.args.problem Credulous c.args.number c.in-Credulous-Some.number
    c.args.grounded c.in_ok-accepted-in-Credulous-Some.accepted c.credulous.result c.in-Credulous-Some.is-0
    c.in-Credulous-Some.is-1 c.in_ok-accepted-in-Credulous-Some.ensures c.credulous.ensures

pub returns-in_ok-accepted-in-Sceptical-Some : goal.returns-in_ok-accepted-in-Sceptical-Some
returns-in_ok-accepted-in-Sceptical-Some c =
    answer_said (framework_of c.args.framework.now) c.args.problem Sceptical c.args.number c.in-Sceptical-Some.number
    c.args.grounded c.in_ok-accepted-in-Sceptical-Some.accepted c.sceptical.result c.in-Sceptical-Some.is-0
    c.in-Sceptical-Some.is-1 c.in_ok-accepted-in-Sceptical-Some.ensures c.sceptical.ensures
