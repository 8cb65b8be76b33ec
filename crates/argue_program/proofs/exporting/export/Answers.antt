use Rattle.std.proofs.Common.{◌≡◌, ◌∙◌, sym, Ok, Err}
use Rattle.argue_commands.specs.declared.ended.Status.TheVariants.{ReadFault}
use Rattle.argue_program.proofs.ExportLemmas.{export_done, export_stopped}
use Rattle.argue_program.proofs.exporting.export.Goals as goal

pub returns-in-Ok-export_ending-clause-ending : goal.returns-in-Ok-export_ending-clause-ending
returns-in-Ok-export_ending-clause-ending g c =
    let ends = c.in-Ok-export_ending.ensures in
    export_done _ _ _ c.in-Ok-export_ending.ending c.in-Some.wanted c.in-Ok.exported
    (sym c.exporting_of.ensures ∙ c.in-Some.is) c.in-Ok.ensures.ok
    (c.in-Ok.ensures.quiet (λ of e. let is : Ok c.in-Ok.exported ≡ Err (ReadFault of) = e in cc))
    ends.status ends.keeps ends.text ends.files

pub returns-in-Err-clause-ending : goal.returns-in-Err-clause-ending
returns-in-Err-clause-ending g c =
    export_stopped _ _ _ c.status_ending-in-Err.result c.in-Some.wanted c.in-Err.status
    (sym c.exporting_of.ensures ∙ c.in-Some.is)
    c.in-Err.ensures.err
    (λ none. c.in-Err.ensures.quiet (λ of e. none of (let is : Err c.in-Err.status ≡ Err (ReadFault of) = e in cc)))
    c.in-Err.ensures.others c.status_ending-in-Err.ensures.status c.status_ending-in-Err.ensures.kept
    c.status_ending-in-Err.ensures.text
    c.status_ending-in-Err.ensures.files
