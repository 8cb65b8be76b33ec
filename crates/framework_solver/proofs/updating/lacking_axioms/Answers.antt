use Rattle.edit_rules.specs.Kinds.{framework_of}
use Rattle.framework_solver.proofs.UpdateLemmas.{all_needed, all_wait, changed_needed, changed_wait}
use Rattle.framework_solver.proofs.updating.lacking_axioms.Goals as goal

pub returns-then-had_all-clause-needed : goal.returns-then-had_all-clause-needed
returns-then-had_all-clause-needed c =
    changed_needed c.requires.before (framework_of c.args.after.now) c.changed_of.result
    (c.changed_of.ensures c.requires.before c.requires.numbered c.requires.of)

pub returns-then-had_all-clause-waits : goal.returns-then-had_all-clause-waits
returns-then-had_all-clause-waits c = λ before log numbered of force.
    changed_wait before (framework_of c.args.after.now) log c.changed_of.result (force c.if-had_all.true)
    (c.changed_of.ensures before numbered of)

pub returns-clause-needed : goal.returns-clause-needed
returns-clause-needed c = all_needed (framework_of c.args.after.now) c.needed_of.result c.needed_of.ensures

pub returns-clause-waits : goal.returns-clause-waits
returns-clause-waits c = λ before log numbered of force.
    all_wait (framework_of c.args.after.now) log c.needed_of.result c.needed_of.ensures
