use Rattle.std.proofs.Common.{refl, arith, rules}
use Rattle.std.proofs.lemmas.Slice.Zip.{AllZip-long}
use Rattle.num_text.specs.Numerals.{IsReadNumber}
use Rattle.script_text.proofs.CommandCauses.{bad_use, bad_use_number}
use Rattle.script_text.proofs.ReadNumbers.{none_spelled, one_reading}
use Rattle.script_text.proofs.use_line.framework_by.Goals as goal

pub returns-then-readings-ne1-clause-wrong : goal.returns-then-readings-ne1-clause-wrong
returns-then-readings-ne1-clause-wrong c = λ texts are.
    let long = AllZip-long IsReadNumber texts c.args.readings.now are in
    bad_use texts (λ one. absurd (omega (arith, c.if-readings-ne1.true, long, one)))

pub returns-in-Some-clause-framework : goal.returns-in-Some-clause-framework
returns-in-Some-clause-framework c = λ texts are. record {
  numbers = texts;
  fields_are = refl;
  spelled = one_reading texts c.args.readings.now c.in-Some.framework (omega (arith, c.if-readings-ne1.false)) c.in-Some.is
      are;
}

pub returns-in-None-clause-wrong : goal.returns-in-None-clause-wrong
returns-in-None-clause-wrong c = λ texts are.
    let long = AllZip-long IsReadNumber texts c.args.readings.now are in
    bad_use_number texts (omega (arith, long, c.if-readings-ne1.false))
    (none_spelled texts c.args.readings.now are (0, search rules, c.in-None.is))
