use Rattle.std.proofs.Common.{arith, ◌-◌, ◌≡◌}
use Rattle.bench_runs.proofs.DrawLemmas.{all_drawn, draws_begin, draws_next}
use Rattle.bench_runs.proofs.framework.draw_attacks.Goals as goal

pub loop-argument-init : goal.loop-argument-init
loop-argument-init c = draws_begin c.args.n c.args.seed c.new-attacks.result.items c.new-attacks.ensures.items

pub loop-argument-preserved : goal.loop-argument-preserved
loop-argument-preserved c =
    draws_next c.args.n c.args.seed c.loop-argument.argument c.loop-argument.state c.in_ok-state.state
    c.loop-argument.attacks.items c.push_attacks.new.attacks.items c.loop-argument.auto.argument
    c.loop-argument.invariant c.in_ok-state.ensures.state c.in_ok-state.ensures.attacks

pub returns : goal.returns
returns c =
    let end : c.loop-argument.argument - 1 ≡ c.args.n =
    omega (arith, c.loop-argument-test.false, c.loop-argument.auto.argument-end) in
    all_drawn c.args.n c.args.seed c.loop-argument.argument c.loop-argument.state c.loop-argument.attacks.items end
    c.loop-argument.invariant
