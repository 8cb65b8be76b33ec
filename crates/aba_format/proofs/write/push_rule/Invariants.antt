use Rattle.std.proofs.Common.{◌≡◌, ◌++◌, ◌∷◌, take, map, codes, string_bytes}
use Rattle.aba_format.specs.Written.{spaced}
use Rattle.aba_format.proofs.write.push_rule.Given as goal

abbrev pub invariant-loop-atom : goal.invariant-loop-atom
invariant-loop-atom l = string_bytes l.text
    ≡ string_bytes l.fn.text ++ (codes "r" ++ spaced (l.fn.head ∷ map (λ p. p.1) (take l.atom-index l.body)))
