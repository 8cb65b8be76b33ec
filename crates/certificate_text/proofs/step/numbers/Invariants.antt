use Rattle.std.proofs.Common.{length, map}
use Rattle.certificate_text.proofs.OrdinalLemmas.{NumbersTo}
use Rattle.certificate_text.proofs.step.numbers.Given as goal

abbrev pub invariant-loop-field : goal.invariant-loop-field
invariant-loop-field l = NumbersTo (map (λ f. f.text) l.fn.rest) (map (λ f. f.text) l.rest) l.numbers

abbrev pub decreases-loop-field : goal.decreases-loop-field
decreases-loop-field l = length l.rest
