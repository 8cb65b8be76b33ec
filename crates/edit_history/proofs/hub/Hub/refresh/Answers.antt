use Rattle.std.proofs.Common.{ap}
use Rattle.edit_rules.specs.Kinds.{framework_of}
use Rattle.turn_lock.specs.Seats.{list_of}
use Rattle.edit_history.specs.Hubs.{start_of}
use Rattle.edit_history.proofs.HubLemmas.{fresh_from}
use Rattle.edit_history.proofs.hub.Hub.refresh.Goals as goal

pub returns-clause-ok : goal.returns-clause-ok
returns-clause-ok g c =
    let value = c.enter-held.result.value in
    let same = ap (λ o. framework_of o.0) c.enter-held.ensures.opening in
    fresh_from (framework_of value.opening) (start_of c.args.self.now) c.args.from value.changes.items
    c.in_ok-entries.entries (list_of c.leave.new.seat) c.seen.result same value.done c.in_ok-entries.ensures
    c.leave.ensures.seen c.seen.ensures
