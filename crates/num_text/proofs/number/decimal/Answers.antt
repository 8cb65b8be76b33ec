use Rattle.std.proofs.Common.{◌≡◌, ◌+◌, length, take, arith, sym, subst}
use Rattle.std.specs.Prelude.{All}
use Rattle.std.proofs.lemmas.Bool.{eqb-false}
use Rattle.std.proofs.lemmas.List.{take_all}
use Rattle.std.proofs.lemmas.List.Elements.{All-more}
use Rattle.num_text.specs.Number.{IsDigit}
use Rattle.num_text.proofs.NumberLemmas.{digits_value-take-le, digits_value_more}
use Rattle.num_text.proofs.number.decimal.Goals as goal

pub returns-then-value-gt-MAX_NUMBER-clause-none : goal.returns-then-value-gt-MAX_NUMBER-clause-none
returns-then-value-gt-MAX_NUMBER-clause-none c = λ n is.
    let more = digits_value_more c.args.bytes.now c.loop-byte.byte-index c.loop-byte-test.true in
    let below = digits_value-take-le c.args.bytes.now (c.loop-byte.byte-index + 1) in
    let worth = c.loop-byte.invariant.value in
    let value_is = is.value in
    let fits = is.fits in
    omega (arith, c.from.ensures)

pub loop-byte-preserved : goal.loop-byte-preserved
loop-byte-preserved c =
    let more = digits_value_more c.args.bytes.now c.loop-byte.byte-index c.loop-byte-test.true in
    let worth = c.loop-byte.invariant.value in
    record {
      value = omega (arith, c.from.ensures);
      digits = All-more IsDigit c.args.bytes.now
          c.loop-byte.byte-index 0 c.loop-byte-test.true c.loop-byte.invariant.digits
          (record {
            low = omega (arith, c.if-not-is_ascii_digit.ensures.cases);
            high = omega (arith, c.if-not-is_ascii_digit.ensures.cases);
          });
      fits = omega arith;
    }

pub returns-clause-number : goal.returns-clause-number
returns-clause-number c =
    let whole : take c.loop-byte.byte-index c.args.bytes.now
    ≡ c.args.bytes.now = take_all c.loop-byte.byte-index c.args.bytes.now (omega arith) in
    record {
      not_empty = (let some = eqb-false (length c.args.bytes.now) 0
          (sym c.if-is_empty.ensures) in omega arith);
      digits = subst (λ bytes. All IsDigit bytes) whole c.loop-byte.invariant.digits;
      value = rw whole at (sym c.loop-byte.invariant.value);
      fits = c.loop-byte.invariant.fits;
    }
