use Rattle.std.proofs.Common.{map}
use Rattle.iccma_tasks.proofs.Arguments.{ArgumentsTo}
use Rattle.iccma_tasks.proofs.read.arguments.Given as goal

abbrev pub invariant-loop-field : goal.invariant-loop-field
invariant-loop-field l = ArgumentsTo (map (λ f. f.text) l.fn.fields)
    (map (λ f. f.text) l.field-iterator) l.numbers.items
