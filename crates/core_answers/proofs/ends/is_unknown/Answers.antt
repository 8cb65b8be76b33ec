use Rattle.std.proofs.Common.{◌≡◌, false, refl, subst, sym}
use Rattle.iccma_tasks.specs.declared.task.Task.{Task}
use Rattle.edit_rules.specs.Kinds.{framework_of}
use Rattle.session_log.specs.Ends.{is_by_grounded}
use Rattle.core_answers.proofs.EndLemmas.{named_spent}
use Rattle.core_answers.proofs.ends.is_unknown.Goals as goal

pub in_hand_serves-requires : goal.in_hand_serves-requires
in_hand_serves-requires c =
    named_spent (framework_of c.args.framework.now) c.args.query.now c.args.log.now c.args.pending.now
    (record { limit = c.args.budget; used = c.args.used }) c.args.count
    (c.in_ok-spent.ensures.0 c.if-not-spent.false)

pub returns : goal.returns
returns c =
    let hand = c.in_ok-serves.ensures c.args.log.now (sym c.steps.ensures) in (
      λ t. (
        c.in_ok-spent.ensures.0 c.if-not-spent.false,
        subst (λ (x : Task). is_by_grounded x.problem x.semantics ≡ false) c.task.ensures
            (c.if-not-may_stop.ensures.0 refl),
        hand.0 t,
      ),
      λ h. hand.1 h.2,
    )
