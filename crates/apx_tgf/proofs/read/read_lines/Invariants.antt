use Rattle.apx_tgf.proofs.ReadingLemmas.{HasRead}
use Rattle.apx_tgf.proofs.read.read_lines.Given as goal

-- the lines so far are told
abbrev pub invariant-loop-line : goal.invariant-loop-line
invariant-loop-line l = HasRead l.format l.initial.left l.left l.divided l.told
