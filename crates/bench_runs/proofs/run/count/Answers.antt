use Rattle.std.proofs.Common.{ap, length, refl, ◌∙◌}
use Rattle.edit_rules.specs.Kinds.{framework_of}
use Rattle.bench_runs.specs.Generator.{bench_framework}
use Rattle.bench_runs.specs.Scripts.{bench_script}
use Rattle.bench_runs.specs.declared.run.TheConstants.{BENCH_BUDGET}
use Rattle.bench_runs.proofs.RunLemmas.{all_counted, may_count}
use Rattle.bench_runs.proofs.run.count.Goals as goal

pub rejected_in-requires-clause-rise : goal.rejected_in-requires-clause-rise
rejected_in-requires-clause-rise c =
    let may = may_count c.args.n c.args.seed BENCH_BUDGET c.args.transcript.now c.requires.some c.requires.few
    c.requires.transcript in
    rw (c.as_slice-replies.ensures.value, c.as_slice-history.ensures.value) may.rise

pub rejected_in-requires-clause-few : goal.rejected_in-requires-clause-few
rejected_in-requires-clause-few c =
    let may = may_count c.args.n c.args.seed BENCH_BUDGET c.args.transcript.now c.requires.some c.requires.few
    c.requires.transcript in
    rw c.as_slice-replies.ensures.value may.few

pub rejected_in-requires-clause-short : goal.rejected_in-requires-clause-short
rejected_in-requires-clause-short c =
    let may = may_count c.args.n c.args.seed BENCH_BUDGET c.args.transcript.now c.requires.some c.requires.few
    c.requires.transcript in
    rw c.as_slice-replies.ensures.value may.short

pub queries_of-requires : goal.queries_of-requires
queries_of-requires c =
    let may = may_count c.args.n c.args.seed BENCH_BUDGET c.args.transcript.now c.requires.some c.requires.few
    c.requires.transcript in
    rw c.as_slice-replies.ensures.value may.queries

pub returns : goal.returns
returns c =
    all_counted (bench_framework c.args.n c.args.seed) (bench_script c.args.n c.args.seed) c.args.transcript.now
    (framework_of c.args.transcript.now.history.opening) c.as_slice-history.result.now c.in_ok-lines.lines
    c.as_slice-replies.result.now c.sizes-arguments.result.0 c.sizes-arguments.result.1
    (length c.as_slice-history.result.now) c.queries_of.result c.in_ok-rejected.rejected c.in_ok-grounded.grounded
    c.requires.transcript.opening c.as_slice-history.ensures.value
    (c.in_ok-lines.ensures ∙ (c.as_slice.ensures ∙ ap (λ script. script.lines) c.requires.script))
    c.as_slice-replies.ensures.value
    c.sizes-arguments.ensures.arguments c.sizes-arguments.ensures.attacks refl c.queries_of.ensures
    c.in_ok-rejected.ensures c.in_ok-grounded.ensures
