use Rattle.std.proofs.Common.{arith, ◌-◌, ◌≡◌, refl}
use Rattle.bench_runs.specs.Scripts.{asked_about}
use Rattle.bench_runs.proofs.DrawLemmas.{all_made, lines_begin, lines_next, script_made}
use Rattle.bench_runs.proofs.script.script.Goals as goal

pub loop-argument-init : goal.loop-argument-init
loop-argument-init c = lines_begin c.args.n c.args.seed c.new-lines.result c.new-lines.ensures

pub loop-argument-preserved : goal.loop-argument-preserved
loop-argument-preserved c =
    lines_next c.args.n c.args.seed c.loop-argument.argument c.loop-argument.state c.next-state.result
    c.loop-argument.lines c.push_lines.new.lines c.loop-argument.auto.argument
    c.loop-argument.invariant (rw (c.next-state.ensures, c.next.ensures, c.next-one.ensures) refl)
    (rw (← c.next-one.ensures, ← c.drawn.ensures.value) c.in_ok-push_lines.ensures)

pub returns : goal.returns
returns c =
    let end : c.loop-argument.argument - 1 ≡ asked_about c.args.n =
    omega (arith, c.loop-argument-test.false, c.loop-argument.auto.argument-end, c.min-argument-end.ensures) in
    script_made c.args.n c.args.seed c.loop-argument.lines c.new-uses.result
    (all_made c.args.n c.args.seed c.loop-argument.argument c.loop-argument.state c.loop-argument.lines end
    c.loop-argument.invariant)
    c.new-uses.ensures
