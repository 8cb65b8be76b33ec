-- Reading goes on from line to line.
use Rattle.std.specs.Prelude.{ℕ, List}
use Rattle.num_text.specs.Cuts.{LineText}
use Rattle.certificate_text.specs.declared.draft.Draft.{Draft}
use Rattle.certificate_text.specs.Reading.{Outcome, Reads, ReadsAs, end_of}

-- whatever the lines that are left lead to from what was read, the text reads as
abbrev pub ReadsOn : List ℕ → Draft → List LineText → Type 0
ReadsOn bytes draft lines = (result : Outcome) → Reads (end_of bytes) draft lines result → ReadsAs bytes result
