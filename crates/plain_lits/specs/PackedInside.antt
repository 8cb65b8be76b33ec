-- A packed literal gives its number back.
use Rattle.std.proofs.Common.{◌≡◌, ℕ, ap, arith}
use Rattle.std.proofs.lemmas.Bool.Decides.{nat_tests}
use Rattle.plain_lits.specs.Packed.{packed, unpacked}
use Rattle.plain_lits.specs.declared.packed_lit.PackedLit.TheInside.{Inside}

-- the fields of a packed literal
abbrev pub inside_of : ℕ → Inside
inside_of n = record { code = n }

-- the number of a number's literal is that number
packed_code : (n : ℕ) → packed (unpacked n) ≡ n
packed_code n = grind (arith, nat_tests)

pub packed-unpacked : (p : Inside) → inside_of (packed (unpacked p.code)) ≡ p
packed-unpacked p = ap inside_of (packed_code p.code)
