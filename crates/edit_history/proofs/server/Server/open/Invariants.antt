use Rattle.edit_history.proofs.ServerLemmas.{IsOpening}
use Rattle.edit_history.proofs.server.Server.open.Given as goal

-- what is open so far, and the frameworks that are left
abbrev pub invariant-loop-count : goal.invariant-loop-count
invariant-loop-count g l =
    IsOpening l.fn.frameworks.items l.limit l.counts l.count-index l.left.items l.hubs.items l.seats.items
