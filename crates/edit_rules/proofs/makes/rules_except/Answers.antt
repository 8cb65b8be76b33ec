use Rattle.std.proofs.Common.{arith, ap, length}
use Rattle.std.proofs.lemmas.List.{length-map}
use Rattle.semantics.specs.Rules.{Rule}
use Rattle.edit_rules.proofs.MadeFrameworks.{few_rules}
use Rattle.edit_rules.proofs.makes.rules_except.Goals as goal

pub overflow_cast-index : goal.overflow_cast-index
overflow_cast-index c =
    omega (
      arith,
      c.loop-index-test.true,
      c.loop-index.auto.index-end,
      ap length c.rule_numbers-index-end.ensures.value,
      length-map c.args.plain.now.rules (λ (r : Rule). r.number),
      few_rules c.args.plain.now c.rule_numbers-index-end.ensures.form,
    )
