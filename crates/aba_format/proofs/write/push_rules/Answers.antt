use Rattle.std.proofs.Common.{arith, ap, ◌∙◌, length}
use Rattle.std.proofs.lemmas.List.{length-map}
use Rattle.semantics.specs.Rules.{Rule}
use Rattle.aba_format.proofs.write.push_rules.Goals as goal

pub overflow_cast-index : goal.overflow_cast-index
overflow_cast-index c =
    let long = ap length c.rule_heads-head-items.ensures.value
    ∙ length-map c.args.framework.now.rules (λ (r : Rule). r.head) in
    let next = c.requires.next_is in
    let few = c.rule_heads-head-items.ensures.form.rules in
    let below = c.loop-index-test.true in
    omega arith
