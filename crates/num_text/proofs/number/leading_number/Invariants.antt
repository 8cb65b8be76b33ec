use Rattle.std.proofs.Common.{length, ◌-◌, ◌≡◌, take, ◌<◌, ◌≤◌, ◌^◌}
use Rattle.std.specs.Prelude.{All}
use Rattle.num_text.specs.Number.{IsDigit, digits_value}
use Rattle.num_text.proofs.number.leading_number.Given as goal

-- the digits so far, and their value
abbrev pub invariant-loop-length : goal.invariant-loop-length
invariant-loop-length l = record {
  value : l.value ≡ digits_value (take l.length l.bytes);
  digits : All IsDigit (take l.length l.bytes);
  below : l.value < 10 ^ l.length;
  few : l.length ≤ l.most;
}

abbrev pub decreases-loop-length : goal.decreases-loop-length
decreases-loop-length l = l.most - l.length
