use Rattle.std.proofs.Common.{◌∙◌, ap, length, sym}
use Rattle.std.proofs.lemmas.List.{get_or_default}
use Rattle.semantics.specs.declared.limits.TheConstants.{MAX_EXTENSIONS}
use Rattle.core_machine.specs.Steps.{IsStep, answer}
use Rattle.core_answers.specs.Outcomes.{ending_of}
use Rattle.core_events.specs.declared.seats.MachineSeat.{MachineSeat}
use Rattle.core_events.specs.AtHand.{core_of}
use Rattle.core_events.proofs.AnswerLemmas.{answered_so, not_answered}
use Rattle.core_events.proofs.StateLemmas.{stopped}
use Rattle.core_events.proofs.at_hand.CoreAtHand.answer.Goals as goal

pub returns-in_err-index : goal.returns-in_err-index
returns-in_err-index c =
    let event = answer c.args.session c.args.query.now MAX_EXTENSIONS c.args.budget c.args.pending.now
    (ending_of c.args.outcome.now) in
    stopped (IsStep (core_of c.args.self.now) event) (core_of c.args.self.now) (core_of c.seat.new.self)
    c.from_residual.result c.from_residual.ensures c.in_err-index.ensures.same

pub returns-in_err-may_answer : goal.returns-in_err-may_answer
returns-in_err-may_answer c =
    let event = answer c.args.session c.args.query.now MAX_EXTENSIONS c.args.budget c.args.pending.now
    (ending_of c.args.outcome.now) in
    stopped (IsStep (core_of c.args.self.now) event) (core_of c.args.self.now) (core_of c.seat.new.self)
    c.from_residual-in_err-may_answer.result c.from_residual-in_err-may_answer.ensures c.in_ok-index.ensures.same

pub returns-then-not-branch : goal.returns-then-not-branch
returns-then-not-branch c = (
  c.in_ok-index.ensures.same,
  not_answered (core_of c.seat.new.self) (core_of c.args.self.now) c.args.session c.args.query.now c.args.budget
      c.args.pending.now c.args.outcome.now c.in_ok-may_answer.field-0 c.in_ok-index.ensures.same
      c.in_ok-may_answer.ensures c.if-not-branch.true,
)

pub returns : goal.returns
returns c =
    answered_so (core_of c.args.self.now) c.seat.new.self c.args.session c.in_ok-index.index c.index_mut.result.now
    c.args.query.now c.args.budget c.args.pending.now c.args.outcome.now
    (length c.steps-answered.result.now) c.in_ok-index.ensures.same
    c.in_ok-index.ensures.at c.index_mut.ensures.value
    (ap length (c.steps-answered.ensures ∙ ap (λ (x : MachineSeat). x.session.log.steps)
    (c.index.ensures ∙ (get_or_default c.seat.new.self.seats.items c.in_ok-index.index c.index.result.now
    c.index_mut.result.now c.in_ok-index.ensures.at.within ∙ sym c.index_mut.ensures.value))))
    (c.in_ok-may_answer.ensures.0 c.if-not-branch.false)
