use Rattle.std.proofs.Common.{◌≡◌, ◌++◌, length, take}
use Rattle.std.specs.String.{string_bytes}
use Rattle.std.specs.List.{flat_map}
use Rattle.af_format.specs.Written.{header_line, attack_line}
use Rattle.af_format.proofs.write.text_of.Given as goal

-- the text so far is that of the attacks so far
abbrev pub invariant-loop-attacker : goal.invariant-loop-attacker
invariant-loop-attacker l = string_bytes l.text ≡ header_line (length l.framework.live)
    ++ flat_map attack_line (take l.attacker-index l.framework.attacks)
