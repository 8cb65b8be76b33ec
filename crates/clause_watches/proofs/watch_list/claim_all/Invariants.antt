use Rattle.std.proofs.Common.{take}
use Rattle.clause_watches.specs.Picks.{ClaimsAll}
use Rattle.clause_watches.proofs.watch_list.claim_all.Given as goal

abbrev pub invariant-loop-lit : goal.invariant-loop-lit
invariant-loop-lit l = ClaimsAll l.initial.lists.items l.lists.items (take l.lit-index l.clause)
