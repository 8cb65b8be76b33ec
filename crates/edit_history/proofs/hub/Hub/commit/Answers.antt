use Rattle.std.proofs.Common.{[], ◌∷◌, subst}
use Rattle.turn_lock.specs.Seats.{list_of, number_of}
use Rattle.edit_history.specs.Hubs.{IsCommitted, limit_of, start_of}
use Rattle.edit_history.proofs.EntryLemmas.{one_effect}
use Rattle.edit_history.proofs.hub.Hub.commit.Goals as goal

pub only_of-requires : goal.only_of-requires
only_of-requires g c = one_effect _ c.args.edit _ c.in_ok-done.ensures.ok.added.taken

pub returns-clause-ok : goal.returns-clause-ok
returns-clause-ok g c =
    subst (λ effects. IsCommitted (limit_of c.args.self.now) (start_of c.args.self.now) (number_of c.args.seat.now)
    (c.args.edit ∷ []) (list_of c.args.seat.now) (list_of c.commit_edits.new.seat) effects) c.only_of.ensures
    c.in_ok-done.ensures.ok
