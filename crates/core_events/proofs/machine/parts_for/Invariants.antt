use Rattle.std.proofs.Common.{length, map}
use Rattle.edit_rules.specs.Kinds.{framework_of}
use Rattle.core_events.proofs.MachineLemmas.{HasParts}
use Rattle.core_events.proofs.machine.parts_for.Given as goal

abbrev pub invariant-loop-alloc : goal.invariant-loop-alloc
invariant-loop-alloc l =
    HasParts (map framework_of l.fn.frameworks.items) (map framework_of l.rest.items) l.parts.items

abbrev pub decreases-loop-alloc : goal.decreases-loop-alloc
decreases-loop-alloc l = length l.rest.items
