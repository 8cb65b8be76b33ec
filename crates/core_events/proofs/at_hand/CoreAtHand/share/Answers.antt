use Rattle.std.proofs.Common.{◌∙◌, List, ap, subst, sym}
use Rattle.oracle_face.specs.Logs.{LogStep}
use Rattle.core_machine.specs.Core.{Core, CoreSession}
use Rattle.core_machine.specs.Steps.{IsStep, share}
use Rattle.core_events.specs.AtHand.{core_of}
use Rattle.core_events.specs.Sharing.{EntryForSome, IsEntryFor}
use Rattle.core_events.specs.Stops.{Comes}
use Rattle.core_events.proofs.SharingLemmas.{not_for}
use Rattle.core_events.proofs.StateLemmas.{seated, stopped}
use Rattle.core_events.proofs.at_hand.CoreAtHand.share.Goals as goal

pub returns-in_err-index : goal.returns-in_err-index
returns-in_err-index c =
    stopped (IsStep (core_of c.args.self.now) (share c.args.session c.args.number c.args.place))
    (core_of c.args.self.now) (core_of c.seat.new.self) c.from_residual.result c.from_residual.ensures
    c.in_err-index.ensures.same

pub returns-in_err-found : goal.returns-in_err-found
returns-in_err-found c =
    stopped (IsStep (core_of c.args.self.now) (share c.args.session c.args.number c.args.place))
    (core_of c.args.self.now) (core_of c.seat.new.self) c.from_residual-in_err-found.result
    c.from_residual-in_err-found.ensures c.in_ok-index.ensures.same

pub put_in_pool-requires-clause-entry : goal.put_in_pool-requires-clause-entry
put_in_pool-requires-clause-entry c =
    subst (λ (xs : List LogStep). IsEntryFor c.args.session xs c.args.number c.in-Some.entry)
    (c.steps.ensures ∙ ap (λ (x : CoreSession). x.log.steps) (sym (seated c.seat.new.self c.args.session
    c.in_ok-index.index c.index.result.now c.in_ok-index.ensures.at c.index.ensures)))
    (subst (EntryForSome c.args.session c.steps.result.now c.args.number) c.in-Some.is c.in_ok-found.ensures)

pub returns-in-None : goal.returns-in-None
returns-in-None c = (
  c.in_ok-index.ensures.same,
  not_for (core_of c.seat.new.self) (core_of c.args.self.now) c.args.session c.args.number c.args.place
      c.steps.result.now c.in_ok-index.ensures.same
      (c.steps.ensures ∙ ap (λ (x : CoreSession). x.log.steps) (sym (seated c.seat.new.self c.args.session
      c.in_ok-index.index c.index.result.now c.in_ok-index.ensures.at c.index.ensures)))
      (subst (EntryForSome c.args.session c.steps.result.now c.args.number) c.in-None.is c.in_ok-found.ensures),
)

pub returns-in-Some : goal.returns-in-Some
returns-in-Some c =
    subst (λ (core : Core). Comes (IsStep core (share c.args.session c.args.number c.args.place)) core
    (core_of c.put_in_pool.new.self) c.put_in_pool.result) c.in_ok-index.ensures.same c.put_in_pool.ensures
