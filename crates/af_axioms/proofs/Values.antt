-- The value of a gap in a framework is its value in each world of the framework.
use Rattle.std.proofs.Common.{◌≡◌, ℕ, Bool}
use Rattle.std.specs.Prelude.{◌↔◌, IsTrue}
use Rattle.meaning_atoms.specs.semantics.specs.Framework.{Af}
use Rattle.meaning_atoms.specs.semantics.specs.Frameworks.{af}
use Rattle.meaning_atoms.specs.declared.atom.Atom.{Atom}
use Rattle.meaning_atoms.specs.declared.atom.Atom.TheVariants.{Gap}
use Rattle.meaning_atoms.specs.Worlds.{HasGap}
use Rattle.af_axioms.specs.Facts.{IsFactValue}

pub gap_value : (f : Af) (atom : Atom) (a i j : ℕ) (value : Bool)
    → atom ≡ Gap a i j → (IsTrue value ↔ HasGap f a i j) → IsFactValue (af f) atom value
gap_value f atom a i j value e h = rw e (record { fact = tt; reading = λ s sides. h })
