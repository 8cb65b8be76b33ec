-- The axioms that an engine hands to its solver.
use Rattle.std.specs.Prelude.{◌≢◌, List, AllPairs, Contains}
use Rattle.semantics.specs.Frameworks.{Framework}
use Rattle.meaning_atoms.specs.declared.axiom.AxiomName.{AxiomName}
use Rattle.af_encoding.specs.Changes.{IsCalledFor}
use Rattle.oracle_face.specs.Needed.{IsNeeded}

-- the list has axioms that the framework needs, and no others
pub record AreNeededBy (f : Framework) (names : List AxiomName) : Type 0 where
  pub only : (name : AxiomName) → Contains names name → IsNeeded f name

-- the list has just the axioms that the framework needs, each once
pub record AreNeeded (f : Framework) (names : List AxiomName) : Type 0 where
  pub all : (name : AxiomName) → IsNeeded f name → Contains names name
  pub only : (name : AxiomName) → Contains names name → IsNeeded f name
  pub once : AllPairs (λ x y. x ≢ y) names

-- the list has just the axioms that the one framework needs and the one before it did not
pub record AreCalledFor (before after : Framework) (names : List AxiomName) : Type 0 where
  pub all : (name : AxiomName) → IsCalledFor before after name → Contains names name
  pub only : (name : AxiomName) → Contains names name → IsCalledFor before after name
