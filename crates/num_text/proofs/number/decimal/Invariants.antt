use Rattle.std.proofs.Common.{◌≡◌, ◌<◌, ◌^◌, take}
use Rattle.std.specs.Prelude.{All}
use Rattle.num_text.specs.Number.{IsDigit, digits_value}
use Rattle.num_text.proofs.number.decimal.Given as goal

abbrev pub invariant-loop-byte : goal.invariant-loop-byte
invariant-loop-byte l = record {
  value : l.value ≡ digits_value (take l.byte-index l.bytes);
  digits : All IsDigit (take l.byte-index l.bytes);
  fits : l.value < 2 ^ 32;
}
