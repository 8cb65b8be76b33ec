use Rattle.std.proofs.Common.{rules}
use Rattle.edit_history.specs.Hubs.{IsSeatAt}
use Rattle.session_tests.proofs.FirstLemmas.{first_of, rest_of}
use Rattle.session_tests.proofs.tests.hubs.+fn-work_all-join_mut+arg3+work_all.Goals as goal

-- the first seat is the hub's, and so are the others, which are fewer
pub join_mut-one-requires-after_bounds : goal.join_mut-one-requires-after_bounds
join_mut-one-requires-after_bounds g t c κs within =
    let is = c.in-Some.ensures.cases.0 in
    let seats = c.args.seats.now in
    let first = first_of (λ s. IsSeatAt c.args.hub.now s) seats c.in-Some.first.now c.in-Some.rest.now c.requires is in
    let rest = rest_of (λ s. IsSeatAt c.args.hub.now s) seats c.in-Some.first.now c.in-Some.rest.now c.requires is in
    (first, (search rules, ((λ a m. m), (search rules, (rest, search rules)))))
