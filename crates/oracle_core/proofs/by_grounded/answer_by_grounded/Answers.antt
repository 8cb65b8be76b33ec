use Rattle.std.proofs.Common.{sym, ◌∙◌}
use Rattle.edit_rules.specs.Kinds.{framework_of}
use Rattle.oracle_core.proofs.GroundedLemmas.{shown_for}
use Rattle.oracle_core.proofs.Writing.{empty_by_log}
use Rattle.oracle_core.proofs.by_grounded.answer_by_grounded.Goals as goal

pub returns-clause-shown : goal.returns-clause-shown
returns-clause-shown c =
    shown_for (framework_of c.args.framework.now) c.args.query.now _ _ c.in_ok-grounded.grounded c.in_ok-answer.answer
    c.new.result c.new-2.result c.kind-form.ensures.form c.in_ok-grounded.ensures c.task-task.ensures
    c.number.ensures.number (sym c.is_by_grounded-answered.ensures ∙ c.if-not-answered.false)
    c.number.ensures.fits c.in_ok-answer.ensures c.new.ensures c.new-2.ensures

pub returns-clause-by_log : goal.returns-clause-by_log
returns-clause-by_log c =
    empty_by_log (framework_of c.args.framework.now) c.args.query.now c.in_ok-answer.answer (record {
      sets = c.new.result;
      refutations = c.new-2.result;
    }) (returns-clause-shown c) c.new-2.ensures
