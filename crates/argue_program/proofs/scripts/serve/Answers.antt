use Rattle.argue_program.proofs.ScriptLemmas.{served_from}
use Rattle.argue_program.proofs.scripts.serve.Goals as goal

pub returns : goal.returns
returns g c =
    served_from _ _ _ _ c.in_ok-transcript.transcript c.script_ending.result c.in_ok-transcript.ensures
    c.script_ending.ensures
