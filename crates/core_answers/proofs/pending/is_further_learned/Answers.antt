use Rattle.std.proofs.Common.{refl}
use Rattle.edit_rules.specs.Kinds.{framework_of}
use Rattle.core_answers.proofs.PendingLemmas.{further_learned}
use Rattle.core_answers.proofs.pending.is_further_learned.Goals as goal

pub returns : goal.returns
returns c = further_learned (framework_of c.args.framework.now) c.args.query.now c.args.log.now c.args.clause.now
    c.args.hints.now c.in_ok-taken.taken ((rw c.steps.ensures at c.if-not-is_fresh.ensures).0 refl)
    ((rw c.steps-2.ensures at c.if-not-are_kept.ensures).0 refl) (rw c.steps-3.ensures at c.in_ok-taken.ensures)
