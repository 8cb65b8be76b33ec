use Rattle.std.proofs.Common.{map, refl, ◌∙◌, rules}
use Rattle.script_text.proofs.CommandCauses.{bad_change, bad_change_number}
use Rattle.script_text.proofs.EditLines.{edit_by, never_true, reading_takes, takes_reading}
use Rattle.script_text.proofs.ReadNumbers.{all_spelled, none_spelled}
use Rattle.script_text.proofs.edit_line.edit_of.Goals as goal

pub returns-then-not-takes-clause-wrong : goal.returns-then-not-takes-clause-wrong
returns-then-not-takes-clause-wrong c = bad_change c.args.change (map (λ f. f.text) c.args.fields)
    (λ takes. never_true (c.if-not-takes.ensures.1
    (takes_reading c.args.change _ c.in_ok-readings.readings c.len.result c.in_ok-readings.ensures c.len.ensures takes)))

pub returns-in_default-clause-wrong : goal.returns-in_default-clause-wrong
returns-in_default-clause-wrong c =
    let texts = map (λ f. f.text) c.args.fields in
    bad_change_number c.args.change texts
    (reading_takes c.args.change texts c.in_ok-readings.readings c.len.result c.in_ok-readings.ensures c.len.ensures
    (c.if-not-takes.ensures.0 refl))
    (none_spelled texts c.in_ok-readings.readings c.in_ok-readings.ensures (search rules))

pub returns-clause-edit : goal.returns-clause-edit
returns-clause-edit c =
    let texts = map (λ f. f.text) c.args.fields in
    edit_by c.args.change texts c.in-Some.numbers c.in_ok-edit_with.field-0 c.in_ok-edit_with.ensures.change
    (c.in_ok-edit_with.ensures.numbers ∙ c.as_slice-2.ensures)
    (all_spelled texts c.in_ok-readings.readings c.in-Some.numbers c.in_ok-readings.ensures (search rules))
