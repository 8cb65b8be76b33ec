use Rattle.std.proofs.Common.{◌≡◌, map, take}
use Rattle.certificate_making.specs.Trimmed.{number_in}
use Rattle.certificate_making.proofs.renumbering.moved_hints.Given as goal

abbrev pub invariant-loop-hint : goal.invariant-loop-hint
invariant-loop-hint l = l.moved ≡ map (number_in l.numbers) (take l.hint-index l.hints)
