use Rattle.std.proofs.Common.{arith, ◌∙◌}
use Rattle.edit_rules.specs.Kinds.{framework_of}
use Rattle.refutation_logs.proofs.Counting.{log_counted}
use Rattle.refutation_logs.proofs.Loggings.{few_written, rows_long, step_there, text_of}
use Rattle.refutation_logs.proofs.texts.export_steps.Goals as goal

pub clause_count-requires-clause-there : goal.clause_count-requires-clause-there
clause_count-requires-clause-there c =
    step_there (framework_of c.args.framework.now) c.args.kind c.args.sets.now c.args.steps.now _ _
    (let some = c.requires.some in omega (arith, some)) c.index-steps-last.is c.requires.hold

pub write_table-requires-clause-index : goal.write_table-requires-clause-index
write_table-requires-clause-index c =
    let long = rows_long _ _ _ _ c.in_ok-add_steps.ensures.logged in
    let some = c.requires.some in
    omega (arith, long, some)

pub write_table-requires-clause-few : goal.write_table-requires-clause-few
write_table-requires-clause-few c =
    few_written _ _ _ _ c.in_ok-add_steps.ensures.logged c.in_ok-add_steps.ensures.few

pub returns : goal.returns
returns c =
    let h = c.in_ok-add_steps.ensures.logged in
    let long = h.log.long in
    let some = c.requires.some in
    let counted = log_counted _ c.args.steps.now _ _ _ h.logged _ (omega (arith, some)) c.index-steps-last.is
    c.write_table.ensures.different h.log
    (c.in_ok-add_steps.ensures.count ∙ (c.new-writer.ensures.count ∙ c.in_ok-count.ensures.count)) in
    record {
      atoms = c.add_steps.new.table.atoms;
      logged = h.logged;
      log = h.log;
      text = text_of _ _ _ _ _ h c.requires.some c.in_ok-add_steps.ensures.few c.in_ok-exported.ensures.vars
          c.in_ok-exported.ensures.few
          (c.in_ok-exported.ensures.texts h.logged h.written h.clauses (omega (arith, long, some)) counted);
    }
