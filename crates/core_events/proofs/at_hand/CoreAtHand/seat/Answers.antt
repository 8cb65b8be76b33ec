use Rattle.core_events.specs.AtHand.{core_of}
use Rattle.core_events.proofs.at_hand.CoreAtHand.seat.Goals as goal

pub returns-clause-same : goal.returns-clause-same
returns-clause-same c = λ i. record (core_of c.args.self.now) { sessions = c.seat_of.ensures.same i }
