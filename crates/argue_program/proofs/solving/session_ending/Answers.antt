use Rattle.std.proofs.Common.{Err}
use Rattle.argue_program.proofs.RowsLemmas.{ends_session}
use Rattle.argue_program.proofs.solving.session_ending.Goals as goal

pub returns-in-Err : goal.returns-in-Err
returns-in-Err c =
    ends_session c.args.session (Err c.in-Err.stop) _ _ c.stop_ending.result c.in-Err.is (c.stop_ending.ensures _ _)
