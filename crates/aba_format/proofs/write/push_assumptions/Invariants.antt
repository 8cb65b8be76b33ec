use Rattle.std.proofs.Common.{◌≡◌, ◌++◌, take, string_bytes}
use Rattle.std.specs.List.{flat_map}
use Rattle.aba_format.specs.Written.{assumption_line}
use Rattle.aba_format.proofs.write.push_assumptions.Given as goal

abbrev pub invariant-loop-assumption : goal.invariant-loop-assumption
invariant-loop-assumption l = string_bytes l.text ≡ string_bytes l.fn.text ++ flat_map assumption_line (take l.assumption-index l.assumptions)
