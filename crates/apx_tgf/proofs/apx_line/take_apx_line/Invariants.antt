use Rattle.std.proofs.Common.{length}
use Rattle.apx_tgf.specs.ApxText.{tokens_of}
use Rattle.apx_tgf.proofs.ApxLemmas.{HasTaken}
use Rattle.apx_tgf.proofs.apx_line.take_apx_line.Given as goal

-- the facts so far are told
abbrev pub invariant-loop-first : goal.invariant-loop-first
invariant-loop-first l = HasTaken l.line.number (tokens_of l.line.text.now) l.tokens l.initial.told l.told

abbrev pub decreases-loop-first : goal.decreases-loop-first
decreases-loop-first l = length l.tokens
