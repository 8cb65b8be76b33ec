use Rattle.std.proofs.Common.{◌≡◌, ◌∙◌, sym, Ok, Err}
use Rattle.argue_outside.specs.declared.Role.TheVariants.{Framework}
use Rattle.argue_commands.specs.declared.ended.Status.TheVariants.{ReadFault}
use Rattle.argue_program.proofs.RowsLemmas.{solve_session, solve_stopped}
use Rattle.argue_program.proofs.solving.solve.Goals as goal

pub returns-in-Err-clause-ending : goal.returns-in-Err-clause-ending
returns-in-Err-clause-ending g c =
    solve_stopped _ _ c.in-Some.query _ c.status_ending-in-Err.result (sym c.solving_of.ensures ∙ c.in-Some.is)
    c.in-Err.status
    c.in-Err.ensures.err
    (λ other. c.in-Err.ensures.quiet (λ e. other (let is : Err c.in-Err.status ≡ Err (ReadFault (Framework 1)) =
    e in cc)))
    c.in-Err.ensures.others c.status_ending-in-Err.ensures.status c.status_ending-in-Err.ensures.kept
    c.status_ending-in-Err.ensures.text
    c.status_ending-in-Err.ensures.files

pub returns-in-Ok-session_ending-clause-ending : goal.returns-in-Ok-session_ending-clause-ending
returns-in-Ok-session_ending-clause-ending g c =
    solve_session _ _ c.in-Some.query _ c.in-Ok-session_ending.ending (sym c.solving_of.ensures ∙ c.in-Some.is)
    c.in-Ok.session c.in-Ok.ensures.ok
    (c.in-Ok.ensures.quiet (λ e. let is : Ok c.in-Ok.session ≡ Err (ReadFault (Framework 1)) = e in cc))
    c.in-Ok-session_ending.ensures
