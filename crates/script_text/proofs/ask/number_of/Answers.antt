use Rattle.std.proofs.Common.{refl, rules}
use Rattle.script_text.proofs.ReadNumbers.{no_reading, none_spelled, one_reading, nothing_left}
use Rattle.script_text.proofs.ask.number_of.Goals as goal

pub returns-then-is_empty-clause-number : goal.returns-then-is_empty-clause-number
returns-then-is_empty-clause-number c = λ texts are.
    no_reading texts c.args.readings.now (nothing_left c.args.readings.now (search rules)) are

pub returns-in-Some-clause-number : goal.returns-in-Some-clause-number
returns-in-Some-clause-number c = λ texts are.
    one_reading texts c.args.readings.now c.in-Some.number c.requires c.in-Some.is are

pub returns-in-None-clause-wrong : goal.returns-in-None-clause-wrong
returns-in-None-clause-wrong c = (
  refl,
  λ texts are. none_spelled texts c.args.readings.now are (0, search rules, c.in-None.is),
)
