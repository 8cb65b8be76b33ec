use Rattle.std.proofs.Common.{rules, []}
use Rattle.bench_runs.specs.Running.{HasServed}
use Rattle.bench_runs.proofs.LentLemmas.{first_of, rest_of}
use Rattle.bench_runs.proofs.script_run.+fn-serve_all-join_mut+arg3+serve_all.Goals as goal

-- the first session has done nothing yet, and neither have the others, which are fewer
pub join_mut-one-requires-after_bounds : goal.join_mut-one-requires-after_bounds
join_mut-one-requires-after_bounds g t c κs within =
    let is = c.in-Some.ensures.cases.0 in
    let runners = c.args.runners.now in
    let opened = HasServed c.args.hub.now c.args.pool.now c.args.budget [] in
    let first = first_of opened runners c.in-Some.first.now c.in-Some.rest.now c.requires is in
    let rest = rest_of opened runners c.in-Some.first.now c.in-Some.rest.now c.requires is in
    (first, (search rules, ((λ a m. m), (search rules, (search rules, (rest, search rules))))))
