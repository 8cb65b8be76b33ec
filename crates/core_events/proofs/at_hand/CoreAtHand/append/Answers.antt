use Rattle.std.proofs.Common.{[], ◌∷◌, ap, length}
use Rattle.core_events.specs.AtHand.{core_of}
use Rattle.core_events.proofs.TurnLemmas.{same_history, turn_stopped, turned}
use Rattle.core_events.proofs.at_hand.CoreAtHand.append.Goals as goal

pub returns-in_err-index : goal.returns-in_err-index
returns-in_err-index c =
    turn_stopped (core_of c.args.self.now) (core_of c.seat.new.self) c.args.session
    (record { session = c.args.session; edits = c.args.edits } ∷ []) c.from_residual-in_err-index.result
    c.from_residual-in_err-index.ensures c.in_err-index.ensures.same

pub returns-in_err-add_entry : goal.returns-in_err-add_entry
returns-in_err-add_entry c =
    turn_stopped (core_of c.args.self.now) (core_of (record c.seat.new.self { history = c.add_entry.new.history }))
    c.args.session (record { session = c.args.session; edits = c.args.edits } ∷ [])
    c.from_residual-in_err-add_entry.result c.from_residual-in_err-add_entry.ensures
    (same_history c.seat.new.self (core_of c.args.self.now) c.add_entry.new.history c.in_err-add_entry.ensures.err
    c.in_ok-index.ensures.same)

pub returns : goal.returns
returns c =
    turned c.seat.new.self c.args.session c.in_ok-index.index c.index_mut.result.now c.in_ok-index.ensures.at
    c.index_mut.ensures.value (core_of c.args.self.now) c.in_ok-turns.turns c.add_entry.new.history
    (length c.as_slice-seen.result.now)
    (record { session = c.args.session; edits = c.args.edits } ∷ []) c.in_ok-index.ensures.same c.in_ok-turns.ensures
    c.in_ok-add_entry.ensures.ok (ap length c.as_slice-seen.ensures.value)
