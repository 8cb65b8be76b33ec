use Rattle.std.proofs.Common.{◌≡◌, ◌++◌, take}
use Rattle.std.specs.List.{flat_map}
use Rattle.named_commands.specs.NamedTexts.{named_line}
use Rattle.named_commands.proofs.texts.push_sets.Given as goal

abbrev pub invariant-loop-set : goal.invariant-loop-set
invariant-loop-set l = l.text ≡ l.fn.text ++ flat_map (named_line l.names) (take l.set-index l.sets)
