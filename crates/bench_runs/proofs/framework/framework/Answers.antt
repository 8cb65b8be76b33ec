use Rattle.edit_rules.proofs.SameFrameworks.{are_arguments, are_between, made}
use Rattle.bench_runs.specs.Generator.{bench_framework}
use Rattle.bench_runs.proofs.FrameworkForm.{bench_form, bench_members}
use Rattle.bench_runs.proofs.framework.framework.Goals as goal

pub new-requires : goal.new-requires
new-requires c =
    let form = bench_form c.args.n c.args.seed c.requires.some c.requires.few in
    record {
      arguments = are_arguments (bench_framework c.args.n c.args.seed) c.in_ok-live.live form c.in_ok-live.ensures;
      between = are_between (bench_framework c.args.n c.args.seed) c.in_ok-live.live c.in_ok-attacks.attacks.items form
          c.in_ok-live.ensures
          (bench_members c.args.n c.args.seed c.in_ok-attacks.attacks.items c.in_ok-attacks.ensures);
    }

pub returns : goal.returns
returns c =
    made (bench_framework c.args.n c.args.seed) c.in_ok-live.live c.in_ok-attacks.attacks.items c.new.result
    (bench_form c.args.n c.args.seed c.requires.some c.requires.few) c.in_ok-live.ensures
    (bench_members c.args.n c.args.seed c.in_ok-attacks.attacks.items c.in_ok-attacks.ensures)
    c.new.ensures.live c.new.ensures.attacks c.new.ensures.form
