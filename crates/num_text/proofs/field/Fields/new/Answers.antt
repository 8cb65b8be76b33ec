use Rattle.std.proofs.Common.{refl}
use Rattle.num_text.specs.Cuts.{fields_of}
use Rattle.num_text.proofs.field.Fields.new.Goals as goal

pub returns : goal.returns
unfolding fields_of
returns c = refl
