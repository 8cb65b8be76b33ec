use Rattle.std.proofs.Common.{refl}
use Rattle.turn_lock.specs.Seats.{number_of}
use Rattle.edit_history.specs.Hubs.{IsSeatAt}
use Rattle.session_tests.proofs.FirstLemmas.{first_of, kept, rest_of}
use Rattle.session_tests.proofs.tests.hubs.group_first.Goals as goal

pub group-requires : goal.group-requires
group-requires g c =
    first_of (λ s. IsSeatAt c.args.hub.now s) c.args.seats.now c.in-Some.first.now c.in-Some._rest.now c.requires
    c.in-Some.ensures.cases.0

pub returns-in-Some : goal.returns-in-Some
returns-in-Some g c =
    let rest = c.in-Some._rest.now in
    let is = c.in-Some.ensures.cases.0 in
    kept (λ s. IsSeatAt c.args.hub.now s) (λ s. number_of s) c.args.seats.now c.in-Some.first.now c.group.new.seat rest
    rest is c.group.ensures
    (rest_of (λ s. IsSeatAt c.args.hub.now s) c.args.seats.now c.in-Some.first.now rest c.requires is, refl)
