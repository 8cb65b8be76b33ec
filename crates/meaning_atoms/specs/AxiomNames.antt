-- Which values name an axiom.
use Rattle.meaning_atoms.specs.declared.axiom.AxiomName.{AxiomName}
use Rattle.meaning_atoms.specs.declared.axiom.AxiomName.TheVariants.{Af, Aba}
use Rattle.meaning_atoms.specs.Axioms.{IsAfAxiom}
use Rattle.meaning_atoms.specs.AbaAxioms.{IsAbaAxiom}

-- the arguments fit the name's row in the table of its kind
abbrev pub IsAxiomName : AxiomName → Type 0
IsAxiomName (Af which) = IsAfAxiom which
IsAxiomName (Aba which) = IsAbaAxiom which
