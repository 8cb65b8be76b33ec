use Rattle.std.proofs.Common.{arith, refl}
use Rattle.std.proofs.lemmas.Bool.{false≢true}
use Rattle.std.proofs.lemmas.List.Elements.{Contains-get_or}
use Rattle.edit_rules.specs.Kinds.{framework_of}
use Rattle.core_answers.specs.Refuting.{IsClosedBy}
use Rattle.core_answers.proofs.Fronts.{blank}
use Rattle.core_answers.proofs.refuting.are_closed.Goals as goal
use Rattle.lists.proofs.Fronts.{front_more, front_whole}

pub returns-then-not-closed : goal.returns-then-not-closed
returns-then-not-closed c = (
  λ t. absurd (false≢true t),
  λ all. c.if-not-closed.ensures.1 (all _ (Contains-get_or c.args.clause.now c.loop-literal.literal-index blank
      c.loop-literal-test.true)),
)

pub loop-literal-preserved : goal.loop-literal-preserved
loop-literal-preserved c =
    front_more (λ l. IsClosedBy (framework_of c.args.framework.now) c.args.claim.now c.args.own.now l) c.args.clause.now
    c.loop-literal.literal-index blank c.loop-literal-test.true c.loop-literal.invariant
    (c.if-not-closed.ensures.0 refl)

pub returns : goal.returns
returns c = (
  λ t. front_whole (λ l. IsClosedBy (framework_of c.args.framework.now) c.args.claim.now c.args.own.now l)
      c.args.clause.now c.loop-literal.literal-index (omega arith) c.loop-literal.invariant,
  λ all. refl,
)
