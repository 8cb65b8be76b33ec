use Rattle.std.proofs.Common.{◌≡◌, ◌+◌, length, arith, ap, ◌∙◌}
use Rattle.std.proofs.lemmas.Bool.{eqb-true, eq-eqb}
use Rattle.std.proofs.lemmas.List.{length-map}
use Rattle.semantics.specs.Rules.{Rule}
use Rattle.aba_notions.proofs.SolidLemmas.{solid}
use Rattle.aba_notions.proofs.aba_plain.AbaPlain.is_solid.Goals as goal

pub returns : goal.returns
returns c =
    let long : length c.rule_numbers.result.now ≡ length c.args.self.now.rules =
    ap length c.rule_numbers.ensures.value ∙ length-map c.args.self.now.rules (λ (r : Rule). r.number) in (
      λ e. solid c.args.self.now c.next.ensures.form
          (omega (arith, long, c.next.ensures.value, eqb-true c.next.result (length c.rule_numbers.result.now + 1) e)),
      λ s. eq-eqb c.next.result (length c.rule_numbers.result.now + 1)
          (omega (arith, long, c.next.ensures.value, s.next_is)),
    )
