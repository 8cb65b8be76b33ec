use Rattle.dung_notions.specs.WrittenOut.{IsBetween}
use Rattle.dung_notions.proofs.WrittenOutLemmas.{HasFitting}
use Rattle.dung_notions.proofs.written_out.attacks_between.Given as goal

abbrev pub invariant-loop-attack : goal.invariant-loop-attack
invariant-loop-attack l = HasFitting (IsBetween l.live) l.attacks l.attack-index l.found.items
