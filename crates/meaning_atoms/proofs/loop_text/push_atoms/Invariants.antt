use Rattle.std.proofs.Common.{◌≡◌, ◌++◌, ◌∷◌, map, take, string_bytes}
use Rattle.std.specs.List.{flat_map}
use Rattle.std.specs.Fmt.{decimal}
use Rattle.meaning_atoms.specs.AxiomText.{pair_numbers, row_numbers}
use Rattle.meaning_atoms.proofs.loop_text.push_atoms.Given as goal

abbrev pub invariant-loop-row : goal.invariant-loop-row
invariant-loop-row l = string_bytes l.text
    ≡ string_bytes l.fn.text ++ flat_map (λ n. 32 ∷ decimal n) (map (λ r. r.atom) (take l.row-index l.rows))
