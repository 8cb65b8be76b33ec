use Rattle.std.proofs.Common.{◌≡◌, ◌∙◌, sym, Ok, Err}
use Rattle.argue_outside.specs.declared.Role.TheVariants.{Framework}
use Rattle.argue_commands.specs.declared.ended.Status.TheVariants.{ReadFault}
use Rattle.argue_program.proofs.RowsLemmas.{names_session, names_stopped}
use Rattle.argue_program.proofs.naming.names.Goals as goal

pub returns-in-Err-clause-ending : goal.returns-in-Err-clause-ending
returns-in-Err-clause-ending g c =
    names_stopped _ _ _ c.status_ending-in-Err.result c.in-Some.query c.in-Err.status
    (sym c.naming_of.ensures.is ∙ c.in-Some.is)
    c.in-Err.ensures.err
    (λ other. c.in-Err.ensures.quiet (λ e. other (let is : Err c.in-Err.status ≡ Err (ReadFault (Framework 1)) =
    e in cc)))
    c.in-Err.ensures.others c.status_ending-in-Err.ensures.status c.status_ending-in-Err.ensures.kept
    c.status_ending-in-Err.ensures.text
    c.status_ending-in-Err.ensures.files

pub returns-in-Ok-named_ending-clause-ending : goal.returns-in-Ok-named_ending-clause-ending
returns-in-Ok-named_ending-clause-ending g c =
    names_session _ _ _ c.in-Ok-named_ending.ending c.in-Some.query c.in-Ok.session.session c.in-Ok.session.text
    (sym c.naming_of.ensures.is ∙ c.in-Some.is) c.in-Ok.ensures.ok
    (c.in-Ok.ensures.quiet (λ e. let is : Ok c.in-Ok.session ≡ Err (ReadFault (Framework 1)) = e in cc))
    c.in-Ok-named_ending.ensures
