use Rattle.std.proofs.Common.{◌≡◌, ◌++◌, take, string_bytes}
use Rattle.std.specs.List.{flat_map}
use Rattle.certificate_text.specs.Written.{refutation_text}
use Rattle.certificate_text.proofs.write.push_refutations.Given as goal

abbrev pub invariant-loop-refutation : goal.invariant-loop-refutation
invariant-loop-refutation l = string_bytes l.text
    ≡ string_bytes l.fn.text ++ flat_map refutation_text (take l.refutation-index l.refutations)
