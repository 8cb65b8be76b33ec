use Rattle.std.proofs.Common.{◌≡◌, map, take}
use Rattle.lrat_text.specs.Checking.{number_of}
use Rattle.lrat_text.proofs.NamedSteps.{all_ids}
use Rattle.lrat_text.proofs.ids.name_hints.Given as goal

abbrev pub invariant-loop-hint : goal.invariant-loop-hint
invariant-loop-hint l = l.named.items ≡ map (number_of (all_ids l.count l.ids)) (take l.hint-index l.hints)
