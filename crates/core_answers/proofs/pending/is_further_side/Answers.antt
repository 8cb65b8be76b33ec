use Rattle.std.proofs.Common.{refl}
use Rattle.std.proofs.lemmas.Bool.{false≢true}
use Rattle.edit_rules.specs.Kinds.{framework_of}
use Rattle.core_answers.proofs.PendingLemmas.{further_side, no_further_side}
use Rattle.core_answers.proofs.pending.is_further_side.Goals as goal

pub returns-then-not-are_other_sides : goal.returns-then-not-are_other_sides
returns-then-not-are_other_sides c = (
  λ t. absurd (false≢true t),
  λ h. absurd (no_further_side (framework_of c.args.framework.now) c.args.query.now c.args.log.now c.args.literals.now
      c.args.set.now
      (λ all. false≢true ((rw c.sides.ensures at c.if-not-are_other_sides.ensures).1 all)) h),
)

pub returns : goal.returns
returns c = further_side (framework_of c.args.framework.now) c.args.query.now c.args.log.now c.args.literals.now
    c.args.set.now c.in_ok-serves.serves ((rw c.sides.ensures at c.if-not-are_other_sides.ensures).0 refl)
    c.in_ok-serves.ensures
