-- What justifies steps.
use Rattle.oracle_face.specs.Logs.{Source, by_axiom, by_side, by_hints}
use Rattle.core_logs.specs.declared.steps.Justification.{Justification}
use Rattle.core_logs.specs.declared.steps.Justification.TheVariants.{Axiom, Side, Hints}

abbrev pub source_of : Justification → Source
source_of (Axiom name) = by_axiom name
source_of (Side number) = by_side number
source_of (Hints hints) = by_hints hints
