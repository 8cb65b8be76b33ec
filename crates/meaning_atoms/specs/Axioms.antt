-- Which values name an axiom of abstract frameworks.
use Rattle.std.specs.Prelude.{ℕ, ◌≤◌, ◌<◌}
use Rattle.meaning_atoms.specs.declared.axiom.AfAxiom.{AfAxiom}
use Rattle.meaning_atoms.specs.declared.axiom.AfAxiom.TheVariants.{A1, A2, A3, A4, A5, A6, A7, A8, A9, A10, A11, A12, A13, A14}
use Rattle.aba_laws.specs.semantics.specs.Arguments.{IsArgument}
use Rattle.meaning_atoms.specs.declared.atom.TheConstants.{END}
use Rattle.meaning_atoms.specs.Atoms.{IsPosition}

-- an argument, a position to begin at and an argument to end at
pub record IsStretch (a i j : ℕ) : Type 0 where
  pub argument : IsArgument a
  pub from : 1 ≤ i
  pub order : i ≤ j
  pub before_end : j < END

-- the arguments fit the name's row in the table of axioms
abbrev pub IsAfAxiom : AfAxiom → Type 0
IsAfAxiom (A1 a) = IsArgument a
IsAfAxiom (A2 b a) = IsArgument b × IsArgument a
IsAfAxiom (A3 b a) = IsArgument b × IsArgument a
IsAfAxiom (A4 b a) = IsArgument b × IsArgument a
IsAfAxiom (A5 a i j) = IsStretch a i j
IsAfAxiom (A6 a i) = IsArgument a × IsPosition i
IsAfAxiom (A7 a) = IsArgument a
IsAfAxiom (A8 a i j) = IsStretch a i j
IsAfAxiom (A9 a i) = IsArgument a × IsPosition i
IsAfAxiom (A10 a) = IsArgument a
IsAfAxiom (A11 a) = IsArgument a
IsAfAxiom (A12 a) = IsArgument a
IsAfAxiom (A13 a) = IsArgument a
IsAfAxiom (A14 part) = (1 ≤ part) × (part ≤ 3)
