use Rattle.std.proofs.Common.{◌≡◌, ◌≤◌, ◌+◌, ◌*◌, ap, arith, drop, length, refl}
use Rattle.std.specs.Prelude.{count_by}
use Rattle.core_answers.specs.declared.counts.Count.TheVariants.{Closings}
use Rattle.core_answers.specs.Serving.{counts}
use Rattle.core_answers.proofs.EndLemmas.{tail_count}
use Rattle.core_answers.proofs.ends.has_served.Goals as goal

pub returns : goal.returns
returns c =
    let few : c.number_of-closings.result ≤ 2 * length c.sides.result.now + 2 = c.if-not-are_few.ensures.0 refl in
    let many : c.number_of-closings.result ≡ count_by (counts Closings) (drop c.args.from c.args.log.now.steps) =
    tail_count Closings c.number_of-closings.result c.args.from c.steps-steps.result.now c.args.log.now.steps
    c.steps-steps.ensures c.number_of-closings.ensures in
    let long : length c.sides.result.now ≡ length c.args.log.now.sides = ap (λ xs. length xs) c.sides.ensures in (
      λ t. record {
        sides = rw (← c.steps-steps.ensures, ← c.number_of-before.ensures, ← c.sides-2.ensures)
            (c.in_ok-sides.ensures.0 c.if-not-sides.false);
        steps = rw (← c.steps-steps.ensures) (c.in_ok-served.ensures.0 t);
        closing = omega (arith, few, many, long);
      },
      λ h. c.in_ok-served.ensures.1 (rw c.steps-steps.ensures h.steps),
    )
