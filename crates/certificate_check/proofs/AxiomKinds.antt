-- Axioms of a framework's kind.
use Rattle.semantics.specs.Frameworks.{Framework, af, aba}
use Rattle.meaning_atoms.specs.declared.axiom.AxiomName.{AxiomName}
use Rattle.meaning_atoms.specs.declared.axiom.AxiomName.TheVariants.{Af as OfAf, Aba as OfAba}
use Rattle.meaning_atoms.specs.AxiomNames.{IsAxiomName}
use Rattle.certificate_claims.specs.Refutations.{IsAxiomOf}

-- the arguments of an axiom of the framework's kind fit its row
pub axiom_fits : (f : Framework) (name : AxiomName) → IsAxiomOf f name → IsAxiomName name
axiom_fits (af f) (OfAf name) is = is
axiom_fits (af f) (OfAba name) is = absurd is
axiom_fits (aba f) (OfAf name) is = absurd is
axiom_fits (aba f) (OfAba name) is = is
