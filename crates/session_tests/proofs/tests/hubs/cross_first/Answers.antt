use Rattle.std.proofs.Common.{◌∷◌, refl}
use Rattle.turn_lock.specs.Seats.{number_of}
use Rattle.edit_history.specs.Hubs.{IsSeatAt}
use Rattle.session_tests.proofs.FirstLemmas.{first_of, kept, rest_of}
use Rattle.session_tests.proofs.tests.hubs.cross_first.Goals as goal

pub cross-requires-clause-one : goal.cross-requires-clause-one
cross-requires-clause-one g c =
    first_of (λ s. IsSeatAt c.args.hub.now s) c.args.seats.now c.in-Some.one.now c.in-Some.rest.now c.requires
    c.in-Some.ensures.cases.0

pub cross-requires-clause-two : goal.cross-requires-clause-two
cross-requires-clause-two g c =
    let rest = c.in-Some.rest.now in
    let two = c.in-Some-split_first_mut in
    first_of (λ s. IsSeatAt c.args.hub.now s) rest two.two.now two._others.now
    (rest_of (λ s. IsSeatAt c.args.hub.now s) c.args.seats.now c.in-Some.one.now rest c.requires c.in-Some.ensures.cases.0)
    two.ensures.cases.0

pub returns-in-Some-split_first_mut : goal.returns-in-Some-split_first_mut
returns-in-Some-split_first_mut g c =
    let rest = c.in-Some.rest.now in
    let is = c.in-Some.ensures.cases.0 in
    let two = c.in-Some-split_first_mut in
    let others = two._others.now in
    let left = rest_of (λ s. IsSeatAt c.args.hub.now s) c.args.seats.now c.in-Some.one.now rest c.requires is in
    kept (λ s. IsSeatAt c.args.hub.now s) (λ s. number_of s) c.args.seats.now c.in-Some.one.now c.cross.new.one rest
    (c.cross.new.two ∷ others) is c.cross.ensures.one
    (kept (λ s. IsSeatAt c.args.hub.now s) (λ s. number_of s) rest two.two.now c.cross.new.two others others
    two.ensures.cases.0 c.cross.ensures.two
    (rest_of (λ s. IsSeatAt c.args.hub.now s) rest two.two.now others left two.ensures.cases.0, refl))
