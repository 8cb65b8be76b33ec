use Rattle.std.proofs.Common.{map, sym, subst, rules}
use Rattle.std.specs.List.{AllZip}
use Rattle.num_text.specs.Numerals.{IsReadNumber}
use Rattle.script_text.proofs.use_line.framework_of.Goals as goal

pub returns-in_err-framework_by-clause-wrong : goal.returns-in_err-framework_by-clause-wrong
returns-in_err-framework_by-clause-wrong c =
    let readings = subst (λ rs. AllZip IsReadNumber (map (λ f. f.text) c.args.fields) rs)
    (sym c.as_slice.ensures) c.in_ok-readings.ensures in
    let told = c.in_err-framework_by.ensures.wrong (map (λ f. f.text) c.args.fields) readings in
    search (rules, told)
