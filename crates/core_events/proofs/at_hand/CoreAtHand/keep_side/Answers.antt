use Rattle.std.proofs.Common.{refl}
use Rattle.oracle_face.specs.Logs.{OracleLog}
use Rattle.core_machine.specs.Core.{Core}
use Rattle.core_machine.specs.Steps.{IsStep, side}
use Rattle.core_events.specs.LogEvents.{KeepsSide}
use Rattle.core_events.specs.AtHand.{core_of}
use Rattle.core_events.proofs.StateLemmas.{seat_comes, stopped}
use Rattle.core_events.proofs.at_hand.CoreAtHand.keep_side.Goals as goal

pub returns-in_err-index : goal.returns-in_err-index
returns-in_err-index c =
    let event = side c.args.session c.args.set.now c.args.literals.now in
    stopped (IsStep (core_of c.args.self.now) event) (core_of c.args.self.now) (core_of c.seat.new.self)
    c.from_residual.result c.from_residual.ensures c.in_err-index.ensures.same

pub returns : goal.returns
returns c =
    let event = side c.args.session c.args.set.now c.args.literals.now in
    let P : OracleLog → OracleLog → Type 0 = KeepsSide c.args.literals.now c.args.set.now in
    let Q : Core → Core → Type 0 = λ core next. IsStep core event next in
    seat_comes (core_of c.args.self.now) c.seat.new.self c.args.session c.in_ok-index.index c.index_mut.result.now P Q
    c.keep_side.new.log c.keep_side.result c.in_ok-index.ensures.same c.in_ok-index.ensures.at c.index_mut.ensures.value
    (λ log p. (log, (p.clause, p.takes), refl))
    (λ next q. (q.0, record { clause = q.1.0; takes = q.1.1 })) c.keep_side.ensures
