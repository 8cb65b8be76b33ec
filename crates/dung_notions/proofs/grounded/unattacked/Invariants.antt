use Rattle.std.proofs.Common.{◌≡◌, ◌==◌, take}
use Rattle.std.specs.Prelude.{filter, slice_index}
use Rattle.dung_notions.proofs.grounded.unattacked.Given as goal

abbrev pub invariant-loop-argument : goal.invariant-loop-argument
invariant-loop-argument l = l.members.items
    ≡ filter (λ a. slice_index l.open_attackers a == 0) (take l.argument-index l.live)
