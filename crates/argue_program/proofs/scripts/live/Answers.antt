use Rattle.std.proofs.Common.{◌≡◌, ◌∙◌, sym, Ok, Err}
use Rattle.argue_commands.specs.declared.ended.Status.TheVariants.{ReadFault}
use Rattle.argue_program.proofs.ScriptLemmas.{live_served, live_stopped}
use Rattle.argue_program.proofs.scripts.live.Goals as goal

pub returns-in-Ok-serve-clause-ending : goal.returns-in-Ok-serve-clause-ending
returns-in-Ok-serve-clause-ending g c =
    live_served _ _ _ c.in-Ok-serve.ending c.in-Some.budget c.in-Ok.opened (sym c.budget_in.ensures ∙ c.in-Some.is)
    c.in-Ok.ensures.ok
    (c.in-Ok.ensures.quiet (λ of e. let is : Ok c.in-Ok.opened ≡ Err (ReadFault of) = e in cc)) c.in-Ok-serve.ensures

pub returns-in-Err-clause-ending : goal.returns-in-Err-clause-ending
returns-in-Err-clause-ending g c =
    live_stopped _ _ _ c.status_ending-in-Err.result c.in-Some.budget c.in-Err.status
    (sym c.budget_in.ensures ∙ c.in-Some.is)
    c.in-Err.ensures.err
    (λ none. c.in-Err.ensures.quiet (λ of e. none of (let is : Err c.in-Err.status ≡ Err (ReadFault of) = e in cc)))
    c.in-Err.ensures.others c.status_ending-in-Err.ensures.status c.status_ending-in-Err.ensures.kept
    c.status_ending-in-Err.ensures.text
    c.status_ending-in-Err.ensures.files
