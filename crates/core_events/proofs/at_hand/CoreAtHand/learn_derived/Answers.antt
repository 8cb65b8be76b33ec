use Rattle.std.proofs.Common.{refl}
use Rattle.oracle_face.specs.Logs.{OracleLog, by_hints}
use Rattle.session_log.specs.Steps.{LearnsClause}
use Rattle.core_machine.specs.Core.{Core}
use Rattle.core_machine.specs.Steps.{IsStep, learn}
use Rattle.core_events.specs.AtHand.{core_of}
use Rattle.core_events.proofs.StateLemmas.{seat_comes, stopped}
use Rattle.core_events.proofs.at_hand.CoreAtHand.learn_derived.Goals as goal

pub returns-in_err-index : goal.returns-in_err-index
returns-in_err-index c =
    let event = learn c.args.session c.args.clause.now (by_hints c.args.hints.now) c.args.closing in
    stopped (IsStep (core_of c.args.self.now) event) (core_of c.args.self.now) (core_of c.seat.new.self)
    c.from_residual.result c.from_residual.ensures c.in_err-index.ensures.same

pub returns : goal.returns
returns c =
    let event = learn c.args.session c.args.clause.now (by_hints c.args.hints.now) c.args.closing in
    let P : OracleLog → OracleLog → Type 0 = LearnsClause c.args.clause.now c.args.hints.now c.args.closing in
    let Q : Core → Core → Type 0 = λ core next. IsStep core event next in
    seat_comes (core_of c.args.self.now) c.seat.new.self c.args.session c.in_ok-index.index c.index_mut.result.now P Q
    c.derive.new.log c.derive.result c.in_ok-index.ensures.same c.in_ok-index.ensures.at c.index_mut.ensures.value
    (λ log p. (log, p, refl)) (λ next q. (q.0, q.1)) c.derive.ensures
