use Rattle.std.proofs.Common.{◌≡◌, ◌++◌, ◌∷◌, take, codes}
use Rattle.std.specs.List.{flat_map}
use Rattle.named_commands.specs.NamedTexts.{name_at}
use Rattle.named_commands.proofs.texts.push_set.Given as goal

abbrev pub invariant-loop-number : goal.invariant-loop-number
invariant-loop-number l =
    l.text ≡ l.fn.text ++ codes "w" ++ flat_map (λ n. 32 ∷ name_at l.names n) (take l.number-index l.number-items)
