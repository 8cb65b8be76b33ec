use Rattle.session_tests.specs.Seats.{IsNewSeat}
use Rattle.session_tests.proofs.FirstLemmas.{front_of, last_of}
use Rattle.session_tests.proofs.tests.sharing.both.Goals as goal

pub asked_at-requires-clause-seat : goal.asked_at-requires-clause-seat
asked_at-requires-clause-seat g c =
    last_of (λ s. IsNewSeat c.args.hub.now s) c.pop-one.new.self.items c.pop-two.new.self.items c.pop-one.result
    (front_of (λ s. IsNewSeat c.args.hub.now s) c.pop-two.new.self.items c.args.seats.items c.pop-two.result
    c.requires.seats c.pop-two.ensures.items) c.pop-one.ensures.items

pub asked_at-requires-2-clause-seat : goal.asked_at-requires-2-clause-seat
asked_at-requires-2-clause-seat g c =
    last_of (λ s. IsNewSeat c.args.hub.now s) c.pop-two.new.self.items c.args.seats.items c.pop-two.result
    c.requires.seats c.pop-two.ensures.items
