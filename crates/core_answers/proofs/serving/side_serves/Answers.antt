use Rattle.std.proofs.Common.{◌∙◌, sym}
use Rattle.std.proofs.lemmas.Bool.{false≢true}
use Rattle.edit_rules.specs.Kinds.{framework_of}
use Rattle.core_answers.proofs.ServeLemmas.{made_as}
use Rattle.core_answers.proofs.serving.side_serves.Goals as goal

pub returns-then-not-made : goal.returns-then-not-made
returns-then-not-made c =
    let f = framework_of c.args.framework.now in (
      λ t. absurd (false≢true t),
      λ h. absurd (false≢true (sym c.if-not-made.true ∙ c.in_ok-made.ensures.1
          (made_as f c.args.query.now _ c.args.literals.now c.args.set.now
          (rw (c.task-task.ensures) at (c.kinds_for-kinds.ensures f c.args.set.now)) h))),
    )
