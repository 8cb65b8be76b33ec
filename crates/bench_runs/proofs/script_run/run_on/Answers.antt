use Rattle.std.proofs.Common.{arith, ap, subst, ◌∙◌}
use Rattle.std.specs.Prelude.{All}
use Rattle.edit_rules.specs.Kinds.{framework_of}
use Rattle.bench_runs.specs.Finishing.{IsFinished}
use Rattle.bench_runs.specs.Running.{HasServed}
use Rattle.bench_runs.specs.Transcripts.{AreSessions, IsTranscriptOf}
use Rattle.bench_runs.proofs.FinishLemmas.{all_seats, if_ok, transcript_is}
use Rattle.bench_runs.proofs.script_run.run_on.Goals as goal

pub finish-requires : goal.finish-requires
finish-requires g c =
    let served = c.in_ok-served.ensures in
    all_seats c.in_ok-hub.hub c.in_ok-pool.pool c.args.budget c.in_ok-lines.lines c.in_ok-served.served.items
    served.each (served.numbers ∙ c.in_ok-runners.ensures.numbers)

pub returns : goal.returns
returns g c =
    let hub = c.in_ok-hub.hub in
    let pool = c.in_ok-pool.pool in
    let count = c.count-count.result in
    let lines = c.in_ok-lines.ensures ∙ c.as_slice.ensures in
    let runners = c.in_ok-served.served.items in
    let opened = c.in_ok-hub.ensures in
    let seats = c.seats_for.ensures in
    let sized = opened.count in
    let served = c.in_ok-served.ensures in
    let some = seats.some in
    let enough = seats.enough in
    if_ok c.finish.result (IsFinished hub pool runners count)
    (IsTranscriptOf (framework_of c.args.framework.now) c.args.script.now c.args.budget) c.finish.ensures
    (λ t h. transcript_is c.args.script.now c.args.budget count hub pool runners t (framework_of c.args.framework.now)
    (opened.start ∙ ap framework_of c.in_ok-opening.ensures) opened.limit
    (subst (λ l. AreSessions l count) lines c.count-count.ensures) (omega (arith, sized, enough))
    (omega (arith, sized, some)) (λ low. let least = seats.least low in omega (arith, sized, least))
    (λ none. let one = seats.one none in omega (arith, sized, one))
    (subst (λ l. All (HasServed hub pool c.args.budget l) runners) lines served.each)
    (served.numbers ∙ c.in_ok-runners.ensures.numbers) h c.kind-form.ensures.form)
