use Rattle.std.proofs.Common.{arith, ◌≡◌, ◌<◌, length, subst}
use Rattle.std.specs.Prelude.{take}
use Rattle.edit_rules.specs.Kinds.{framework_of}
use Rattle.edit_rules.specs.Replay.{replay}
use Rattle.edit_history.specs.Entries.{edits_in, entries_in, framework_after}
use Rattle.bench_runs.proofs.CheckLemmas.{led_next}
use Rattle.bench_runs.proofs.replay.lead.Goals as goal

pub loop-index-preserved : goal.loop-index-preserved
loop-index-preserved c = λ f e.
    let lt : c.loop-index.index < length c.args.history.now =
    omega (arith, c.loop-index-test.true, c.requires.inside) in
    let before = framework_of c.loop-index.framework in
    let after = framework_of c.redo_group.new.framework in
    led_next f before after c.args.history.now c.loop-index.index c.index-history-index.result lt
    (c.loop-index.invariant f e)
    (subst (λ effects. after ≡ replay before (edits_in effects)) c.as_slice.ensures c.in_ok-redo_group.ensures)

pub returns : goal.returns
returns c = λ f e.
    let end : c.loop-index.index ≡ c.args.to =
    omega (arith, c.loop-index-test.false, c.loop-index.auto.index-end, c.requires.order) in
    subst (λ i. framework_of c.loop-index.framework ≡ framework_after f (take i (entries_in c.args.history.now))) end
    (c.loop-index.invariant f e)
