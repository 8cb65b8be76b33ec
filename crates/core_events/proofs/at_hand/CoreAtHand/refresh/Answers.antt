use Rattle.std.proofs.Common.{[], ap, length}
use Rattle.core_events.specs.AtHand.{core_of}
use Rattle.core_events.proofs.TurnLemmas.{nothing_added, turn_stopped, turned}
use Rattle.core_events.proofs.at_hand.CoreAtHand.refresh.Goals as goal

pub returns-in_err-index : goal.returns-in_err-index
returns-in_err-index c =
    turn_stopped (core_of c.args.self.now) (core_of c.seat.new.self) c.args.session [] c.from_residual-in_err-index.result
    c.from_residual-in_err-index.ensures c.in_err-index.ensures.same

pub returns : goal.returns
returns c =
    turned c.seat.new.self c.args.session c.in_ok-index.index c.index_mut.result.now c.in_ok-index.ensures.at
    c.index_mut.ensures.value (core_of c.args.self.now) c.in_ok-turns.turns c.seat.new.self.history (length c.as_slice-seen.result.now) []
    c.in_ok-index.ensures.same c.in_ok-turns.ensures (nothing_added c.seat.new.self.history.items) (ap length c.as_slice-seen.ensures.value)
