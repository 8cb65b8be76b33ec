use Rattle.std.proofs.Common.{◌≡◌, take}
use Rattle.refutation_logs.proofs.steps.name.Given as goal

abbrev pub invariant-loop-hint : goal.invariant-loop-hint
invariant-loop-hint l = l.steps.items ≡ take l.hint-index l.hints
