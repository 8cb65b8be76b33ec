use Rattle.std.proofs.Common.{length}
use Rattle.aba_format.proofs.NumberLists.{HasNumbers}
use Rattle.aba_format.specs.Reading.{texts_of}
use Rattle.aba_format.proofs.statement.read_numbers.Given as goal

abbrev pub invariant-loop-field : goal.invariant-loop-field
invariant-loop-field l = HasNumbers (texts_of l.initial.parts) (texts_of l.parts) l.numbers.items

abbrev pub decreases-loop-field : goal.decreases-loop-field
decreases-loop-field l = length l.parts
