use Rattle.dung_notions.proofs.RangeLemmas.{HasRange}
use Rattle.dung_notions.proofs.af_plain.AfPlain.range_of.Given as goal

abbrev pub invariant-loop-member : goal.invariant-loop-member
invariant-loop-member l = HasRange l.self l.set l.member-index l.found.items
