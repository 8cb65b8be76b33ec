use Rattle.std.proofs.Common.{length}
use Rattle.num_text.specs.Lines.{kept}
use Rattle.certificate_text.proofs.ReadingLemmas.{ReadsOn}
use Rattle.certificate_text.proofs.read.read_certificate.Given as goal

abbrev pub invariant-loop-line : goal.invariant-loop-line
invariant-loop-line l = ReadsOn l.bytes l.draft (kept l.left)

abbrev pub decreases-loop-line : goal.decreases-loop-line
decreases-loop-line l = length (kept l.left)
