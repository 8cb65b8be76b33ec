use Rattle.std.proofs.Common.{◌≡◌}
use Rattle.std.specs.Prelude.{map, take, Some}
use Rattle.script_text.proofs.arguments.numbers_of.Given as goal

-- the numbers so far are those of the readings so far
abbrev pub invariant-loop-reading : goal.invariant-loop-reading
invariant-loop-reading l = map Some l.numbers ≡ take l.reading-index l.fn.readings
