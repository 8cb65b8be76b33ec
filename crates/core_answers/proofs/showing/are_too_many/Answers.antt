use Rattle.std.proofs.Common.{◌≡◌, arith, refl, subst}
use Rattle.iccma_tasks.specs.declared.task.Problem.TheVariants.{AllExtensions}
use Rattle.iccma_tasks.specs.declared.task.Task.{Task}
use Rattle.edit_rules.specs.Kinds.{framework_of}
use Rattle.core_answers.proofs.ShowLemmas.{shown_alone, shown_members}
use Rattle.core_answers.proofs.showing.are_too_many.Goals as goal

pub returns : goal.returns
returns c =
    let f = framework_of c.args.framework.now in
    let semantics = c.args.query.now.task.semantics in
    let alone = rw c.task-task.ensures at c.in_ok-show.ensures in (
      λ t. record {
        all = subst (λ (x : Task). x.problem ≡ AllExtensions) c.task-task.ensures
            (c.if-not-asks_for_all.ensures.0 refl);
        more = omega (arith, c.if-sets-most.false);
        different = c.if-not-they_differ.ensures.0 refl;
        each = shown_members f semantics c.args.log.now c.args.sets.now (alone.0 t);
      },
      λ h. alone.1 (shown_alone f semantics c.args.log.now c.args.sets.now h.each),
    )
