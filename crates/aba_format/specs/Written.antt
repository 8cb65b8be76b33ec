-- The text that is written of a flat assumption-based framework.
use Rattle.std.specs.Prelude.{ℕ, List, [], ◌∷◌, ◌++◌, codes}
use Rattle.std.specs.List.{flat_map}
use Rattle.std.specs.Fmt.{decimal}
use Rattle.semantics.specs.Rules.{Rule}
use Rattle.semantics.specs.AbaFrameworks.{Aba}
use Rattle.aba_format.specs.AbaText.{Said, says_assumption, says_contrary, says_rule, keyword, atoms_of}

-- the header's line, its LF included
abbrev pub header_line : ℕ → List ℕ
header_line count = codes "p aba " ++ (decimal count ++ 10 ∷ [])

-- numbers in decimal, one blank before each
abbrev pub spaced : List ℕ → List ℕ
spaced numbers = flat_map (λ n. 32 ∷ decimal n) numbers

-- the line of what is said: its word, its atoms and LF
abbrev pub said_line : Said → List ℕ
said_line said = keyword said ++ (spaced (atoms_of said) ++ 10 ∷ [])

-- the line of an assumption
abbrev pub assumption_line : ℕ → List ℕ
assumption_line x = said_line (says_assumption x)

-- the line of an assumption and a contrary of it
abbrev pub contrary_line : ℕ × ℕ → List ℕ
contrary_line p = said_line (says_contrary p.0 p.1)

-- the line of a rule
abbrev pub rule_line : Rule → List ℕ
rule_line r = said_line (says_rule r.head r.body)

-- the header's line, those of the assumptions, those of the contraries and those of the rules, each in order
abbrev pub aba_text : Aba → List ℕ
aba_text f = header_line f.atoms
    ++ (flat_map assumption_line f.assumptions ++ (flat_map contrary_line f.contraries ++ flat_map rule_line f.rules))
