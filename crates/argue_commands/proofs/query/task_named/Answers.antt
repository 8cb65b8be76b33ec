use Rattle.std.proofs.Common.{sym, ◌∙◌}
use Rattle.argue_commands.proofs.QueryLemmas.{task_found, task_unfound}
use Rattle.argue_commands.proofs.query.task_named.Goals as goal

pub returns-in-Ok : goal.returns-in-Ok
returns-in-Ok c =
    sym (task_found _ c.in-Ok.task c.in-Ok.ensures.named.0 (c.in-Ok.ensures.named.1 ∙ c.as_bytes.ensures.value))

pub returns-in-Err : goal.returns-in-Err
returns-in-Err c =
    sym (task_unfound _ (λ task is same. c.in-Err.ensures.unknown task is (same ∙ sym c.as_bytes.ensures.value)))
