-- Which argument an axiom of abstract frameworks tells of.
use Rattle.std.specs.Prelude.{◌≡◌, ℕ}
use Rattle.semantics.specs.Framework.{Af}
use Rattle.semantics.specs.Frameworks.{af}
use Rattle.meaning_atoms.specs.declared.axiom.AfAxiom.{AfAxiom}
use Rattle.meaning_atoms.specs.declared.axiom.AfAxiom.TheVariants.{A1, A2, A3, A4, A5, A6, A7, A8, A9}
use Rattle.meaning_atoms.specs.declared.axiom.AfAxiom.TheVariants.{A10, A11, A12, A13, A14}
use Rattle.meaning_atoms.specs.declared.axiom.AxiomName.{AxiomName}
use Rattle.meaning_atoms.specs.declared.axiom.AxiomName.TheVariants.{Af as OfAf, Aba as OfAba}
use Rattle.oracle_face.specs.Needed.{IsNeeded}

-- the argument that an axiom tells of: of an attack the target; 0 for the axioms of all
abbrev pub told_of : AfAxiom → ℕ
told_of (A1 a) = a
told_of (A2 b a) = a
told_of (A3 b a) = a
told_of (A4 b a) = a
told_of (A5 a i j) = a
told_of (A6 a i) = a
told_of (A7 a) = a
told_of (A8 a i j) = a
told_of (A9 a i) = a
told_of (A10 a) = a
told_of (A11 a) = a
told_of (A12 a) = a
told_of (A13 a) = a
told_of (A14 part) = 0

abbrev pub argument_of : AxiomName → ℕ
argument_of (OfAf name) = told_of name
argument_of (OfAba name) = 0

-- the framework needs the axiom, and it tells of this argument
abbrev pub IsNeededAt : Af → ℕ → AxiomName → Type 0
IsNeededAt f a name = IsNeeded (af f) name × (argument_of name ≡ a)
