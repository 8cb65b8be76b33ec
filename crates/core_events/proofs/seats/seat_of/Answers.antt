use Rattle.std.proofs.Common.{◌∙◌, ap}
use Rattle.core_events.specs.Seats.{sessions_of}
use Rattle.core_events.proofs.SeatLemmas.{session_added}
use Rattle.core_events.proofs.seats.seat_of.Goals as goal

pub returns-clause-same : goal.returns-clause-same
returns-clause-same c =
    ap (sessions_of c.args.log_limit) c.in_ok-push.ensures.items
    ∙ (λ i n. session_added c.args.log_limit c.args.seats.now.items
    (record { number = c.args.number; session = c.fresh_session-session.result }) n c.fresh_session-session.ensures i)
