use Rattle.session_tests.specs.Seats.{IsNewSeat}
use Rattle.session_tests.proofs.FirstLemmas.{last_of}
use Rattle.session_tests.proofs.tests.limits.told_first.Goals as goal

pub told_at-requires-clause-seat : goal.told_at-requires-clause-seat
told_at-requires-clause-seat g c =
    last_of (λ s. IsNewSeat c.args.hub.now s) c.pop-seat.new.self.items c.args.seats.items c.pop-seat.result
    c.requires.seats c.pop-seat.ensures.items
