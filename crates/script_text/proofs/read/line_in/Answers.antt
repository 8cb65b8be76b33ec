use Rattle.std.proofs.Common.{rules}
use Rattle.num_text.specs.Cuts.{field_texts}
use Rattle.script_text.specs.Steps.{places_of}
use Rattle.script_text.proofs.GroupCauses.{halt_in_group, limit_told, line_fits}
use Rattle.script_text.proofs.UseLemmas.{stray_told}
use Rattle.script_text.proofs.read.line_in.Goals as goal

pub returns-in_err-told-clause-wrong : goal.returns-in_err-told-clause-wrong
returns-in_err-told-clause-wrong c =
    let told = halt_in_group c.args.frameworks (places_of c.args.groups.now) (field_texts c.args.line.now.text.now)
    c.in_err-told.field-0.0 c.in_ok-check_place.ensures.placed c.in_err-told.ensures.wrong in
    search (rules, told)

pub returns-in_err-check_limits-clause-wrong : goal.returns-in_err-check_limits-clause-wrong
returns-in_err-check_limits-clause-wrong c =
    let told = limit_told c.args.frameworks (places_of c.args.groups.now) c.args.line.now.text.now c.in_ok-told.told
    c.in_err-check_limits.field-0.0 c.in_ok-told.ensures.line c.in_ok-check_place.ensures.placed
    c.in_err-check_limits.ensures.wrong in
    search (rules, told)

pub returns-in_err-check_framework-clause-wrong : goal.returns-in_err-check_framework-clause-wrong
returns-in_err-check_framework-clause-wrong c =
    let fits = line_fits (places_of c.args.groups.now) c.args.line.now.text.now c.in_ok-told.told
    c.in_ok-told.ensures.line c.in_ok-check_place.ensures.placed c.in_ok-check_limits.ensures.fits in
    let told = stray_told c.args.frameworks (places_of c.args.groups.now) c.args.line.now.text.now c.in_ok-told.told
    c.in_err-check_framework.field-0.0 c.in_ok-told.ensures.line fits c.in_err-check_framework.ensures.wrong in
    search (rules, told)

pub returns-clause-fits : goal.returns-clause-fits
returns-clause-fits c =
    line_fits (places_of c.args.groups.now) c.args.line.now.text.now c.in_ok-told.told c.in_ok-told.ensures.line
    c.in_ok-check_place.ensures.placed c.in_ok-check_limits.ensures.fits
