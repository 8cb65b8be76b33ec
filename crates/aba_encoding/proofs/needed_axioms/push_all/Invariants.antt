use Rattle.std.proofs.Common.{take}
use Rattle.aba_encoding.specs.Listing.{Gains}
use Rattle.aba_encoding.proofs.needed_axioms.push_all.Given as goal

abbrev pub invariant-loop-axiom : goal.invariant-loop-axiom
invariant-loop-axiom l = Gains (take l.axiom-index l.added) l.fn.names.items l.names.items
