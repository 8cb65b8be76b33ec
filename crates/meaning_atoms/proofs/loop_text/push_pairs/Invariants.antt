use Rattle.std.proofs.Common.{◌≡◌, ◌++◌, ◌∷◌, map, take, string_bytes}
use Rattle.std.specs.List.{flat_map}
use Rattle.std.specs.Fmt.{decimal}
use Rattle.meaning_atoms.specs.AxiomText.{pair_numbers, row_numbers}
use Rattle.meaning_atoms.proofs.loop_text.push_pairs.Given as goal

abbrev pub invariant-loop-pair : goal.invariant-loop-pair
invariant-loop-pair l = string_bytes l.text
    ≡ string_bytes l.fn.text ++ flat_map (λ n. 32 ∷ decimal n) (flat_map pair_numbers (take l.pair-index l.pairs))
