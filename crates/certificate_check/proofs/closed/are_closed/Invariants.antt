use Rattle.std.proofs.Common.{take}
use Rattle.std.specs.Prelude.{Contains}
use Rattle.meaning_atoms.specs.declared.atom.AtomLit.{AtomLit}
use Rattle.edit_rules.specs.Kinds.{framework_of}
use Rattle.certificate_check.specs.Standing.{IsClosedBy}
use Rattle.certificate_check.proofs.closed.are_closed.Given as goal

abbrev pub invariant-loop-literal : goal.invariant-loop-literal
invariant-loop-literal l =
    (literal : AtomLit) → Contains (take l.literal-index l.clause) literal
    → IsClosedBy (framework_of l.framework) l.claim literal
