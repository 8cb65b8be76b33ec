use Rattle.std.proofs.Common.{length, map}
use Rattle.certificate_text.proofs.OrdinalLemmas.{OrdinalsTo}
use Rattle.certificate_text.proofs.step.ordinals.Given as goal

abbrev pub invariant-loop-field : goal.invariant-loop-field
invariant-loop-field l = OrdinalsTo (map (λ f. f.text) l.fn.rest) (map (λ f. f.text) l.rest) l.numbers

abbrev pub decreases-loop-field : goal.decreases-loop-field
decreases-loop-field l = length l.rest
