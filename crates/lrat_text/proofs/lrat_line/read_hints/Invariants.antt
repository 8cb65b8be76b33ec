use Rattle.std.proofs.Common.{length, map}
use Rattle.lrat_text.specs.LratText.{HintsSay}
use Rattle.lrat_text.proofs.LineParts.{PassedTo}
use Rattle.lrat_text.proofs.lrat_line.read_hints.Given as goal

abbrev pub invariant-loop-field : goal.invariant-loop-field
invariant-loop-field l = PassedTo (λ front. HintsSay front l.hints.items l.cause) (map (λ f. f.text) l.fn.rest)
    (map (λ f. f.text) l.rest) l.filled

abbrev pub decreases-loop-field : goal.decreases-loop-field
decreases-loop-field l = length l.rest
