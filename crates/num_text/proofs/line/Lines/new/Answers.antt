use Rattle.std.proofs.Common.{refl}
use Rattle.num_text.specs.Cuts.{lines_of}
use Rattle.num_text.proofs.line.Lines.new.Goals as goal

pub returns : goal.returns
unfolding lines_of
returns c = refl
