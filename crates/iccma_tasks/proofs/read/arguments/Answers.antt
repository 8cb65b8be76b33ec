use Rattle.std.proofs.Common.{map, ap, refl}
use Rattle.iccma_tasks.proofs.Arguments.{to_bad, to_next}
use Rattle.iccma_tasks.proofs.read.arguments.Goals as goal

pub returns-in_default-clause-fault : goal.returns-in_default-clause-fault
returns-in_default-clause-fault c = (
  refl,
  to_bad _ _ _ _ _ c.loop-field.invariant
      (ap (map (λ f. f.text)) c.in-Some.ensures.steps) c.in_default.ensures.none,
)

pub loop-field-preserved : goal.loop-field-preserved
loop-field-preserved c =
    rw c.in_ok-push.ensures.items
    (to_next _ _ _ _ _ _ c.loop-field.invariant (ap (map (λ f. f.text)) c.in-Some.ensures.steps)
    c.in-Some-argument.ensures.number)
