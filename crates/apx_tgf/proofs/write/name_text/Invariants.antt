use Rattle.std.proofs.Common.{◌≡◌, take}
use Rattle.apx_tgf.specs.Written.{name_lines}
use Rattle.apx_tgf.proofs.write.name_text.Given as goal

-- the lines of the names so far
abbrev pub invariant-loop-index : goal.invariant-loop-index
invariant-loop-index l = l.text ≡ name_lines 1 (take l.index l.names)
