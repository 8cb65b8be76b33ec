-- The text that is written of a framework.
use Rattle.std.specs.Prelude.{ℕ, List, [], ◌∷◌, ◌++◌, length, codes}
use Rattle.std.specs.List.{flat_map}
use Rattle.std.specs.Fmt.{decimal}
use Rattle.semantics.specs.Framework.{Af}

-- the header's line, its LF included
abbrev pub header_line : ℕ → List ℕ
header_line count = codes "p af " ++ (decimal count ++ 10 ∷ [])

-- the line of an attack: attacker and target in decimal, one blank between, and LF
abbrev pub attack_line : ℕ × ℕ → List ℕ
attack_line p = decimal p.0 ++ (32 ∷ (decimal p.1 ++ 10 ∷ []))

-- the header's line, and the line of each attack in order
abbrev pub af_text : Af → List ℕ
af_text f = header_line (length f.live) ++ flat_map attack_line f.attacks
