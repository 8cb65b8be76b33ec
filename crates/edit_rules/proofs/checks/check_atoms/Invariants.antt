use Rattle.std.proofs.Common.{◌≡◌, map, drop}
use Rattle.edit_rules.specs.Refusals.{done_unless}
use Rattle.edit_rules.specs.AbaEdits.{beyond}
use Rattle.edit_rules.proofs.checks.check_atoms.Given as goal

-- what the tests of all numbers come to is what those of the numbers that are left come to
abbrev pub invariant-loop-number : goal.invariant-loop-number
invariant-loop-number l = done_unless {X = Unit {0}} (map (beyond 1 l.atoms) l.numbers) tt
    ≡ done_unless (map (beyond 1 l.atoms) (drop l.number-index l.numbers)) tt
