use Rattle.std.proofs.Common.{◌∙◌, ap, sym}
use Rattle.oracle_face.specs.Logs.{OracleLog}
use Rattle.core_machine.specs.Core.{Core}
use Rattle.core_machine.specs.Steps.{IsStep, take_in}
use Rattle.core_events.specs.AtHand.{core_of}
use Rattle.core_events.specs.Naming.{Imports}
use Rattle.core_events.specs.Places.{pool_of}
use Rattle.core_events.proofs.CallLemmas.{came_in, comes_in, nothing_there}
use Rattle.core_events.proofs.StateLemmas.{seat_comes, stopped}
use Rattle.core_events.proofs.at_hand.CoreAtHand.import.Goals as goal

pub returns-in_err-index : goal.returns-in_err-index
returns-in_err-index c =
    stopped (IsStep (core_of c.args.self.now) (take_in c.args.session c.args.place)) (core_of c.args.self.now)
    (core_of c.seat.new.self) c.from_residual.result c.from_residual.ensures c.in_err-index.ensures.same

pub returns-in_default : goal.returns-in_default
returns-in_default c = (
  c.in_ok-index.ensures.same,
  nothing_there (core_of c.seat.new.self) (core_of c.args.self.now) c.args.session c.args.place
      c.in_ok-index.ensures.same
      (ap (λ ps. pool_of ps c.args.place) (sym c.as_slice.ensures.value) ∙ c.in_default.ensures.none),
)

pub returns : goal.returns
returns c =
    let m = c.seat.new.self in
    let Q : Core → Core → Type 0 = λ core next. IsStep core (take_in c.args.session c.args.place) next in
    let P : OracleLog → OracleLog → Type 0 = Imports (core_of m).opening c.args.session c.in-Some.entry.now in
    let there = ap (λ ps. pool_of ps c.args.place) (sym c.as_slice.ensures.value) ∙ c.in-Some.ensures.some in
    seat_comes (core_of c.args.self.now) m c.args.session c.in_ok-index.index c.index_mut.result.now P Q
    c.import.new.log c.import.result c.in_ok-index.ensures.same c.in_ok-index.ensures.at c.index_mut.ensures.value
    (comes_in (core_of m) c.args.session c.args.place c.in-Some.entry.now there)
    (came_in (core_of m) c.args.session c.args.place c.in-Some.entry.now there)
    c.import.ensures
