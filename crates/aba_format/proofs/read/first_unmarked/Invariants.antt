use Rattle.std.proofs.Common.{◌≡◌, ℕ, ◌<◌, get_or, true}
use Rattle.aba_format.specs.Reading.{is_marked}
use Rattle.aba_format.proofs.read.first_unmarked.Given as goal

abbrev pub invariant-loop-atom : goal.invariant-loop-atom
invariant-loop-atom l = (k : ℕ) → k < l.atom-index → is_marked l.marks (get_or l.given k (0, 0)).0 ≡ true
