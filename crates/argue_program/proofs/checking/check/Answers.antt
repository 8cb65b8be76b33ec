use Rattle.std.proofs.Common.{◌≡◌, ◌∙◌, sym, Err}
use Rattle.argue_commands.specs.declared.ended.Status.TheVariants.{ReadFault}
use Rattle.argue_program.proofs.RowsLemmas.{check_stopped}
use Rattle.argue_program.proofs.checking.check.Goals as goal

pub returns-in-Err-clause-ending : goal.returns-in-Err-clause-ending
returns-in-Err-clause-ending g c =
    check_stopped _ _ _ _ c.status_ending-in-Err.result c.in-Err.status (sym c.query_of.ensures ∙ c.in-Some.is)
    c.in-Err.ensures.err
    (λ none. c.in-Err.ensures.quiet (λ of e. none of (let is : Err c.in-Err.status ≡ Err (ReadFault of) = e in cc)))
    c.in-Err.ensures.others c.status_ending-in-Err.ensures.status c.status_ending-in-Err.ensures.kept
    c.status_ending-in-Err.ensures.text
    c.status_ending-in-Err.ensures.files
