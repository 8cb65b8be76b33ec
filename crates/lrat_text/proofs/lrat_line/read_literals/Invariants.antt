use Rattle.std.proofs.Common.{length, map}
use Rattle.lrat_text.specs.LratText.{LiteralsSay}
use Rattle.lrat_text.proofs.LineParts.{PassedTo}
use Rattle.lrat_text.proofs.lrat_line.read_literals.Given as goal

abbrev pub invariant-loop-field : goal.invariant-loop-field
invariant-loop-field l = PassedTo (λ front. LiteralsSay l.vars front l.literals.items l.cause) (map (λ f. f.text) l.fn.rest)
    (map (λ f. f.text) l.rest) l.filled

abbrev pub decreases-loop-field : goal.decreases-loop-field
decreases-loop-field l = length l.rest
