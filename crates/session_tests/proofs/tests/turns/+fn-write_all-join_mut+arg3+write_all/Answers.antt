use Rattle.std.proofs.Common.{rules}
use Rattle.turn_lock.specs.Seats.{MayEnter}
use Rattle.session_tests.proofs.FirstLemmas.{first_of, rest_of}
use Rattle.session_tests.proofs.tests.turns.+fn-write_all-join_mut+arg3+write_all.Goals as goal

-- the first seat is the lock's, and so are the others, which are fewer
pub join_mut-one-requires-after_bounds : goal.join_mut-one-requires-after_bounds
join_mut-one-requires-after_bounds g t c κs within =
    let is = c.in-Some.ensures.cases.0 in
    let first = first_of (λ s. MayEnter (λ n. n.title) c.args.lock.now s) c.args.seats.now c.in-Some.first.now
    c.in-Some.rest.now c.requires is in
    let rest = rest_of (λ s. MayEnter (λ n. n.title) c.args.lock.now s) c.args.seats.now c.in-Some.first.now
    c.in-Some.rest.now c.requires is in
    (first, (search rules, ((λ a m. m), (search rules, (rest, search rules)))))
