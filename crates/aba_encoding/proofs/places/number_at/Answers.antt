use Rattle.std.proofs.Common.{◌<◌, length, arith}
use Rattle.aba_encoding.proofs.HeadLemmas.{long, number_there, within}
use Rattle.aba_encoding.proofs.places.number_at.Goals as goal

pub bounds-headed_by-index : goal.bounds-headed_by-index
bounds-headed_by-index c =
    let headed = c.headed_by.ensures in
    omega (
      arith,
      c.requires,
      long c.args.plain.now c.rule_numbers.ensures.form c.args.atom c.rule_numbers.result.now
          c.headed_by.result.now c.rule_numbers.ensures.value headed.rise headed.rules,
    )

pub offset_bounds-headed_by-index : goal.offset_bounds-headed_by-index
offset_bounds-headed_by-index c =
    let headed = c.headed_by.ensures in
    omega (
      arith,
      c.requires,
      c.headed_by.type_inv,
      long c.args.plain.now c.rule_numbers.ensures.form c.args.atom c.rule_numbers.result.now
          c.headed_by.result.now c.rule_numbers.ensures.value headed.rise headed.rules,
    )

pub bounds-rule_numbers-headed_by : goal.bounds-rule_numbers-headed_by
bounds-rule_numbers-headed_by c =
    let headed = c.headed_by.ensures in
    let inside : c.args.index < length c.headed_by.result.now =
    omega (
      arith,
      c.requires,
      long c.args.plain.now c.rule_numbers.ensures.form c.args.atom c.rule_numbers.result.now
          c.headed_by.result.now c.rule_numbers.ensures.value headed.rise headed.rules,
    ) in
    within c.args.plain.now c.rule_numbers.ensures.form c.args.atom c.rule_numbers.result.now c.headed_by.result.now
    c.rule_numbers.ensures.value headed.rise headed.rules c.args.index inside

pub returns : goal.returns
returns c =
    let headed = c.headed_by.ensures in
    let inside : c.args.index < length c.headed_by.result.now =
    omega (
      arith,
      c.requires,
      long c.args.plain.now c.rule_numbers.ensures.form c.args.atom c.rule_numbers.result.now
          c.headed_by.result.now c.rule_numbers.ensures.value headed.rise headed.rules,
    ) in
    number_there c.args.plain.now c.rule_numbers.ensures.form c.args.atom c.rule_numbers.result.now
    c.headed_by.result.now c.rule_numbers.ensures.value headed.rise headed.rules c.args.index inside
