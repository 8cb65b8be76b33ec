use Rattle.bench_runs.proofs.RunLemmas.{counts_told, summary_told}
use Rattle.bench_runs.proofs.run.run_bench.Goals as goal

pub returns-clause-counts : goal.returns-clause-counts
returns-clause-counts g c =
    counts_told c.args.n c.args.seed c.with_counts.result c.requires.some c.requires.few c.with_counts.ensures

pub returns-clause-summary : goal.returns-clause-summary
returns-clause-summary g c =
    summary_told c.args.n c.args.seed c.with_counts.result c.requires.some c.requires.few c.with_counts.ensures
