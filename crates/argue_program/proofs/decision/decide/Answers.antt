use Rattle.std.proofs.Common.{refl, map}
use Rattle.std.specs.String.{string_bytes}
use Rattle.argue_words.specs.Words.{requested}
use Rattle.argue_commands.specs.Inputs.{reading}
use Rattle.argue_program.specs.Rows.{row_of}
use Rattle.argue_program.proofs.RowsLemmas.{CountsReads-none, EndsCommand-memory, IsEndingOf-stopped, takes_memory, wants_no_large, wants_no_script}
use Rattle.argue_program.proofs.decision.decide.Goals as goal

pub returns-in-Err-clause-ending : goal.returns-in-Err-clause-ending
returns-in-Err-clause-ending g c =
    let holds = g.F.Files.holds c.args.files.now in
    let found = reading g.F.Files c.args.files.now c.args.files.now in
    let row = row_of holds (requested (map string_bytes c.args.words.now)) in
    let takes = takes_memory holds _ (c.in-Err.ensures.memory refl) in
    IsEndingOf-stopped found row c.status_ending.result _ (EndsCommand-memory found row takes) takes
    c.status_ending.ensures.status c.status_ending.ensures.kept c.status_ending.ensures.text
    c.status_ending.ensures.files
    (CountsReads-none found row _ refl)

pub decide_command-requires-clause-live : goal.decide_command-requires-clause-live
decide_command-requires-clause-live g c =
    wants_no_script (map string_bytes c.args.words.now) c.in-Ok.command c.requires.live c.in-Ok.ensures.request

pub decide_command-requires-clause-bench : goal.decide_command-requires-clause-bench
decide_command-requires-clause-bench g c =
    wants_no_large (map string_bytes c.args.words.now) c.in-Ok.command c.requires.bench c.in-Ok.ensures.request
