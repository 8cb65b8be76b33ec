use Rattle.std.proofs.Common.{◌≡◌, map, take}
use Rattle.certificate_check.specs.StepRows.{row_named}
use Rattle.certificate_check.proofs.taken.name_rows.Given as goal

abbrev pub invariant-loop-hint : goal.invariant-loop-hint
invariant-loop-hint l = l.named.items ≡ map (row_named l.places l.sides) (take l.hint-index l.hints)
