use Rattle.std.proofs.Common.{take}
use Rattle.certificate_making.specs.Marks.{MarksHints}
use Rattle.certificate_making.proofs.reached.mark_hints.Given as goal

abbrev pub invariant-loop-hint : goal.invariant-loop-hint
invariant-loop-hint l = MarksHints (take l.hint-index l.hints) l.initial.marks.items l.marks.items
