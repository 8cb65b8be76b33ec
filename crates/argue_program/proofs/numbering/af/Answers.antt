use Rattle.std.proofs.Common.{◌≡◌, ◌∙◌, sym, Ok, Err}
use Rattle.argue_outside.specs.declared.Role.TheVariants.{Framework}
use Rattle.argue_commands.specs.declared.ended.Status.TheVariants.{ReadFault}
use Rattle.argue_program.proofs.RowsLemmas.{af_done, af_stopped}
use Rattle.argue_program.proofs.numbering.af.Goals as goal

pub returns-in-Err-clause-ending : goal.returns-in-Err-clause-ending
returns-in-Err-clause-ending g c =
    af_stopped _ _ _ c.status_ending-in-Err.result c.in-Some.format c.in-Err.status
    (sym c.format_named.ensures ∙ c.in-Some.is)
    c.in-Err.ensures.err
    (λ other. c.in-Err.ensures.quiet (λ e. other (let is : Err c.in-Err.status ≡ Err (ReadFault (Framework 1)) =
    e in cc)))
    c.in-Err.ensures.others c.status_ending-in-Err.ensures.status c.status_ending-in-Err.ensures.kept
    c.status_ending-in-Err.ensures.text
    c.status_ending-in-Err.ensures.files

pub returns-in-Ok-clause-ending : goal.returns-in-Ok-clause-ending
returns-in-Ok-clause-ending g c =
    af_done _ _ _ c.done_ending.result c.in-Some.format c.in-Ok.text (sym c.format_named.ensures ∙ c.in-Some.is)
    c.in-Ok.ensures.ok
    (c.in-Ok.ensures.quiet (λ e. let is : Ok c.in-Ok.text ≡ Err (ReadFault (Framework 1)) = e in cc))
    c.done_ending.ensures.status c.done_ending.ensures.kept c.done_ending.ensures.text c.done_ending.ensures.files
