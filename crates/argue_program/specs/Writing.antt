-- What an ending writes, whole or in part.
use Rattle.std.specs.Prelude.{◌≡◌, ℕ, ◌⊎◌, List, Option, map}
use Rattle.std.specs.Io.KnownBytes.{Appends}
use Rattle.argue_outside.specs.Outside.{AppendsPart, FaultCounted, KnownFile}
use Rattle.argue_outside.specs.declared.Files.{Ghosts as FilesWords}
use Rattle.argue_outside.specs.declared.Sink.{Ghosts as SinkWords}
use Rattle.argue_commands.specs.Texts.{text_bytes}
use Rattle.argue_commands.specs.Replacing.{BreaksFiles, WritesFiles, file_text}
use Rattle.argue_program.specs.declared.ending.Ending.{Ending}

-- what can be written, at one moment
pub record Output : Type 0 where
  pub holds : List ℕ → KnownFile
  pub write_count : ℕ
  pub contents : Option (List ℕ)
  pub fault_count : ℕ

-- that of these files and this sink, by the words of their traits
abbrev pub output : {S T : Type 0} → FilesWords S → SinkWords T → S → T → Output
output files sink at out = record {
  holds = files.holds at;
  write_count = files.write_count at;
  contents = sink.contents out;
  fault_count = sink.fault_count out;
}

-- the ending was written whole: first its files, then its text
pub record IsWritten (ending : Ending) (old new : Output) : Type 0 where
  pub files : WritesFiles (map file_text ending.files) old.holds new.holds
  pub text : Appends old.contents new.contents (text_bytes ending.text)
  pub no_fault : (new.write_count ≡ old.write_count) × (new.fault_count ≡ old.fault_count)

-- a file couldn't be written, and no text was
pub record BreaksInFiles (ending : Ending) (old new : Output) : Type 0 where
  pub files : BreaksFiles (map file_text ending.files) old.holds new.holds
  pub counted : FaultCounted old.write_count new.write_count
  pub no_text : (new.contents ≡ old.contents) × (new.fault_count ≡ old.fault_count)

-- the files were written, and of the text only a part
pub record BreaksInText (ending : Ending) (old new : Output) : Type 0 where
  pub files : WritesFiles (map file_text ending.files) old.holds new.holds
  pub no_fault : new.write_count ≡ old.write_count
  pub text : AppendsPart old.contents new.contents (text_bytes ending.text)
  pub counted : FaultCounted old.fault_count new.fault_count

-- the ending's output broke off
abbrev pub BreaksOff : Ending → Output → Output → Type 0
BreaksOff ending old new = BreaksInFiles ending old new ⊎ BreaksInText ending old new
