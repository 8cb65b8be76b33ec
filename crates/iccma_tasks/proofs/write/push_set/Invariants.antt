use Rattle.std.proofs.Common.{◌≡◌, ◌++◌, ◌∷◌, take, codes, string_bytes}
use Rattle.std.specs.List.{flat_map}
use Rattle.std.specs.Fmt.{decimal}
use Rattle.iccma_tasks.proofs.write.push_set.Given as goal

abbrev pub invariant-loop-number : goal.invariant-loop-number
invariant-loop-number l = string_bytes l.text
    ≡ string_bytes l.fn.text ++ codes "w" ++ flat_map (λ n. 32 ∷ decimal n)
    (take l.number-index l.number-items)
