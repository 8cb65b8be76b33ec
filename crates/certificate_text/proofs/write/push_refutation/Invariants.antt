use Rattle.std.proofs.Common.{◌≡◌, ◌++◌, take, codes, string_bytes}
use Rattle.std.specs.List.{flat_map}
use Rattle.certificate_text.specs.Written.{step_line}
use Rattle.certificate_text.proofs.write.push_refutation.Given as goal

abbrev pub invariant-loop-step : goal.invariant-loop-step
invariant-loop-step l = string_bytes l.text
    ≡ string_bytes l.fn.text ++ codes "r\n" ++ flat_map step_line (take l.step-index l.step-items)
