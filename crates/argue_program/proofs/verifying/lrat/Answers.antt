use Rattle.std.proofs.Common.{◌≡◌, Err}
use Rattle.argue_commands.specs.declared.ended.Status.TheVariants.{ReadFault}
use Rattle.argue_program.proofs.LratLemmas.{lrat_done, lrat_stopped}
use Rattle.argue_program.proofs.verifying.lrat.Goals as goal

pub returns-in-Err-clause-ending : goal.returns-in-Err-clause-ending
returns-in-Err-clause-ending g c =
    lrat_stopped _ _ c.status_ending.result c.in-Err.status c.in-Err.ensures.err
    (λ none. c.in-Err.ensures.quiet (λ of e. none of (let is : Err c.in-Err.status ≡ Err (ReadFault of) = e in cc)))
    c.in-Err.ensures.others c.status_ending.ensures.status c.status_ending.ensures.kept c.status_ending.ensures.text
    c.status_ending.ensures.files
