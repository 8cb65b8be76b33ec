use Rattle.std.proofs.Common.{◌<◌, length, arith}
use Rattle.std.proofs.lemmas.List.Elements.{All-more}
use Rattle.num_text.specs.Number.{IsDigit}
use Rattle.num_text.proofs.NumberLemmas.{digits_value_more}
use Rattle.num_text.proofs.NumeralLemmas.{one_more}
use Rattle.num_text.proofs.number.leading_number.Goals as goal

pub overflow_mul-value : goal.overflow_mul-value
overflow_mul-value c =
    let more = one_more c.loop-length.value c.loop-length.length c.min-most.result 0
    c.loop-length.invariant.below c.loop-length-test.true (omega (arith, c.min-most.ensures)) (omega arith) in
    omega (arith, more.1)

pub overflow_add-value : goal.overflow_add-value
overflow_add-value c =
    let more = one_more c.loop-length.value c.loop-length.length c.min-most.result c.from.result
    c.loop-length.invariant.below c.loop-length-test.true (omega (arith, c.min-most.ensures))
    (omega (arith, c.from.ensures, c.if-is_ascii_digit.ensures.cases)) in
    omega (arith, more.1)

pub loop-length-preserved : goal.loop-length-preserved
loop-length-preserved c =
    let within : c.loop-length.length < length c.args.bytes.now =
    omega (arith, c.min-most.ensures, c.loop-length-test.true) in
    let more = digits_value_more c.args.bytes.now c.loop-length.length within in
    let worth = c.loop-length.invariant.value in
    let next = one_more c.loop-length.value c.loop-length.length c.min-most.result c.from.result
    c.loop-length.invariant.below c.loop-length-test.true (omega (arith, c.min-most.ensures))
    (omega (arith, c.from.ensures, c.if-is_ascii_digit.ensures.cases)) in
    record {
      value = omega (arith, c.from.ensures);
      digits = All-more IsDigit c.args.bytes.now
          c.loop-length.length 0 within c.loop-length.invariant.digits
          (record {
            low = omega (arith, c.if-is_ascii_digit.ensures.cases);
            high = omega (arith, c.if-is_ascii_digit.ensures.cases);
          });
      below = next.0;
      few = omega (arith, c.loop-length-test.true);
    }
