use Rattle.std.proofs.Common.{map, subst, rules}
use Rattle.num_text.specs.Cuts.{field_texts}
use Rattle.script_text.specs.Steps.{TakesSession}
use Rattle.script_text.proofs.LineCauses.{halt_told}
use Rattle.script_text.proofs.script_line.line_of.Goals as goal

pub returns-in_err-command-clause-wrong : goal.returns-in_err-command-clause-wrong
returns-in_err-command-clause-wrong c =
    let others = map (λ f. f.text) c.session_of.new.parts in
    let takes = subst (λ fields. TakesSession fields c.in_ok-session.session others) c.fields-parts.ensures.texts
    c.in_ok-session.ensures.session in
    let told = halt_told (field_texts c.args.line.now.text.now) others c.in_ok-session.session c.in_err-command.field-0.0
    takes c.in_err-command.ensures.wrong in
    search (rules, told)
