use Rattle.std.proofs.Common.{map}
use Rattle.certificate_text.specs.Literals.{found_in}
use Rattle.certificate_text.proofs.LiteralLemmas.{LiteralsTo}
use Rattle.certificate_text.proofs.step.read_literals.Given as goal

abbrev pub invariant-loop-field : goal.invariant-loop-field
invariant-loop-field l = LiteralsTo (map (λ f. f.text) l.fn.rest) (map (λ f. f.text) l.rest)
    (found_in l.readable l.literals)
