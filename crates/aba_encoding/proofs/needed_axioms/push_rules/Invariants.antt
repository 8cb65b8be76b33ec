use Rattle.std.proofs.Common.{take}
use Rattle.std.specs.List.{flat_map}
use Rattle.aba_encoding.specs.Listing.{Gains, rule_axioms}
use Rattle.aba_encoding.proofs.needed_axioms.push_rules.Given as goal

abbrev pub invariant-loop-index : goal.invariant-loop-index
invariant-loop-index l = Gains (flat_map rule_axioms (take l.index l.plain.rules)) l.fn.names.items l.names.items
