use Rattle.std.proofs.Common.{◌≡◌, ◌++◌, ◌∷◌, take, string_bytes}
use Rattle.std.specs.List.{flat_map}
use Rattle.meaning_atoms.specs.AtomText.{lit_text}
use Rattle.certificate_text.proofs.write.push_literals.Given as goal

abbrev pub invariant-loop-literal : goal.invariant-loop-literal
invariant-loop-literal l = string_bytes l.text ≡ string_bytes l.fn.text ++ flat_map (λ x. 32 ∷ lit_text x) (take l.literal-index l.literals)
