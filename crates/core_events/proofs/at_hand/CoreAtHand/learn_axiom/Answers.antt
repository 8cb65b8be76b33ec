use Rattle.std.proofs.Common.{refl, ap, subst, sym}
use Rattle.semantics.specs.Frameworks.{Framework}
use Rattle.certificate_claims.specs.Refutations.{IsAxiomOf}
use Rattle.oracle_face.specs.Logs.{OracleLog, by_axiom}
use Rattle.core_machine.specs.Core.{Core}
use Rattle.core_machine.specs.Steps.{IsStep, learn}
use Rattle.core_events.specs.LogEvents.{TakesOnce}
use Rattle.core_events.specs.AtHand.{core_of}
use Rattle.core_events.proofs.CallLemmas.{not_wanted}
use Rattle.core_events.proofs.StateLemmas.{seat_comes, stopped}
use Rattle.core_events.proofs.at_hand.CoreAtHand.learn_axiom.Goals as goal

pub returns-in_err-index : goal.returns-in_err-index
returns-in_err-index c =
    let event = learn c.args.session c.args.clause.now (by_axiom c.args.name.now) c.args.closing in
    stopped (IsStep (core_of c.args.self.now) event) (core_of c.args.self.now) (core_of c.seat.new.self)
    c.from_residual.result c.from_residual.ensures c.in_err-index.ensures.same

pub returns-in_err-is_wanted : goal.returns-in_err-is_wanted
returns-in_err-is_wanted c =
    let event = learn c.args.session c.args.clause.now (by_axiom c.args.name.now) c.args.closing in
    stopped (IsStep (core_of c.args.self.now) event) (core_of c.args.self.now) (core_of c.seat.new.self)
    c.from_residual-in_err-is_wanted.result c.from_residual-in_err-is_wanted.ensures c.in_ok-index.ensures.same

pub returns-then-not-branch : goal.returns-then-not-branch
returns-then-not-branch c = (
  c.in_ok-index.ensures.same,
  not_wanted (core_of c.seat.new.self) c.args.session c.args.name.now (core_of c.args.self.now) c.args.clause.now
      c.args.closing c.in_ok-is_wanted.field-0 c.in_ok-index.ensures.same c.in_ok-is_wanted.ensures
      c.if-not-branch.true,
)

pub returns : goal.returns
returns c =
    let event = learn c.args.session c.args.clause.now (by_axiom c.args.name.now) c.args.closing in
    let P : OracleLog → OracleLog → Type 0 = TakesOnce c.args.name.now c.args.clause.now in
    let Q : Core → Core → Type 0 = λ core next. IsStep core event next in
    let kind = subst (λ (f : Framework). IsAxiomOf f c.args.name.now)
    (sym (ap (λ (core : Core). core.opening) c.in_ok-index.ensures.same))
    (c.is_axiom_of.ensures.0 c.if-not-is_axiom_of.false) in
    seat_comes (core_of c.args.self.now) c.seat.new.self c.args.session c.in_ok-index.index c.index_mut.result.now P Q
    c.take_axiom.new.log c.take_axiom.result c.in_ok-index.ensures.same c.in_ok-index.ensures.at
    c.index_mut.ensures.value
    (λ log p. (
      log,
      (
        c.if-closing.false,
        record {
          of_kind = kind;
          once = p.once;
          called = c.in_ok-is_wanted.ensures.0 c.if-not-branch.false;
          takes = p.takes;
        },
      ),
      refl,
    ))
    (λ next q. (q.0, record { once = q.1.1.once; takes = q.1.1.takes })) c.take_axiom.ensures
