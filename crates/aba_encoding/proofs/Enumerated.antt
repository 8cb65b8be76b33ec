-- A list that has gained the listed axioms names each needed one once.
use Rattle.std.proofs.Common.{◌≡◌, ◌++◌, List, [], map, ap, sym, subst, ◌∙◌}
use Rattle.semantics.specs.AbaFrameworks.{Aba, IsNumberedAba}
use Rattle.meaning_atoms.specs.declared.axiom.AxiomName.{AxiomName}
use Rattle.meaning_atoms.specs.declared.axiom.AxiomName.TheVariants.{Aba as OfAba}
use Rattle.af_encoding.specs.Enumerations.{Enumerates}
use Rattle.semantics.specs.Frameworks.{aba}
use Rattle.oracle_face.specs.Needed.{IsNeeded}
use Rattle.aba_encoding.specs.Listing.{Gains, listed_axioms}
use Rattle.aba_encoding.proofs.NeededLemmas.{members_are}
use Rattle.aba_encoding.proofs.OrderLemmas.{listed_once}

pub enumerated : (f : Aba) → IsNumberedAba f → (names : List AxiomName) (old : List AxiomName)
    → Gains (listed_axioms f) old names → old ≡ [] → Enumerates (IsNeeded (aba f)) names
enumerated f form names old gains none =
    let same : names ≡ map OfAba (listed_axioms f) = gains ∙ ap (λ t. t ++ map OfAba (listed_axioms f)) none in
    subst (Enumerates (IsNeeded (aba f))) (sym same)
    (record { members = members_are f form; once = listed_once f form })
