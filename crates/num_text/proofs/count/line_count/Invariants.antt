use Rattle.std.proofs.Common.{◌≡◌, ◌+◌, ◌≤◌, length}
use Rattle.num_text.proofs.count.line_count.Given as goal

-- the lines that were counted, and those that are left, are all
abbrev pub invariant-loop-line : goal.invariant-loop-line
invariant-loop-line l = (l.count + length l.left ≡ length l.initial.left) × (l.count + length l.left ≤ 268435457)
