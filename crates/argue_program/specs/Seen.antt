-- What is seen of a run from outside.
use Rattle.std.specs.Prelude.{ℕ, List}
use Rattle.argue_outside.specs.declared.Files.{Ghosts as FilesWords}
use Rattle.argue_outside.specs.declared.Sink.{Ghosts as SinkWords}
use Rattle.argue_commands.specs.Inputs.{Reading, reading}
use Rattle.argue_program.specs.Writing.{Output, output}

-- what is seen of files and output before a run and after it
pub record Seen : Type 1 where
  pub files : Reading  -- what is known of the files before, and the faults of reading before and after
  pub before : Output
  pub after : Output
  pub Accepts : List ℕ → Type 0  -- the names of which every write succeeded, and will as far as that is known

-- that of these files and this sink, by the words of their traits, each before and after
abbrev pub seen : {S T : Type 0} → FilesWords S → SinkWords T → S → S → T → T → Seen
seen files sink old_files new_files old_out new_out = record {
  files = reading files old_files new_files;
  before = output files sink old_files old_out;
  after = output files sink new_files new_out;
  Accepts = files.accepts new_files;
}
