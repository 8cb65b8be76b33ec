use Rattle.std.proofs.Common.{map, take}
use Rattle.std.specs.List.{AllZip}
use Rattle.apx_tgf.specs.Numbered.{AreNumbersOf}
use Rattle.apx_tgf.specs.Views.{told_attack}
use Rattle.apx_tgf.proofs.numbers.numbers_of_all.Given as goal

-- the attacks so far have these numbers
abbrev pub invariant-loop-attack : goal.invariant-loop-attack
invariant-loop-attack l = AllZip (AreNumbersOf l.names) (take l.attack-index (map told_attack l.attacks)) l.numbers
