-- What a literal says of a number.
use Rattle.std.specs.Prelude.{ℕ}
use Rattle.aba_axioms.specs.meaning_atoms.specs.declared.atom.Atom.TheVariants.{Member, Range, Tail, Hit}
use Rattle.aba_axioms.specs.meaning_atoms.specs.declared.atom.AtomLit.{AtomLit}
use Rattle.aba_axioms.specs.meaning_atoms.specs.declared.atom.Closure.TheVariants.{Own}
use Rattle.aba_axioms.specs.meaning_atoms.specs.Literals.{affirmed, denied}
use Rattle.certificate_claims.specs.declared.words.Word.{Word}
use Rattle.certificate_claims.specs.declared.words.Word.TheVariants.{In, Out, Ranged, Struck, Contrary}

-- the literal that says the word of a number
abbrev pub literal_of : Word → ℕ → AtomLit
literal_of In a = affirmed (Member a)
literal_of Out a = denied (Member a)
literal_of Ranged a = affirmed (Range a)
literal_of Struck a = affirmed (Tail a 1)
literal_of Contrary a = affirmed (Hit Own a 1)
