use Rattle.std.proofs.Common.{arith, take, length, ap, subst, ◌≡◌, ◌∙◌}
use Rattle.std.proofs.lemmas.List.{take_all}
use Rattle.edit_rules.specs.Kinds.{framework_of}
use Rattle.edit_rules.specs.Replay.{after_edit, replay}
use Rattle.edit_history.specs.Entries.{edits_in}
use Rattle.bench_runs.proofs.CheckLemmas.{redone_next}
use Rattle.bench_runs.proofs.replay.redo_group.Goals as goal

pub loop-effect-preserved : goal.loop-effect-preserved
loop-effect-preserved c =
    let effects = c.args.effects.now in
    let i = c.loop-effect.effect-index in
    let start = framework_of c.args.framework.now in
    redone_next start (framework_of c.redo.new.framework) effects i c.effect-item.result c.loop-effect-test.true
    (c.in_ok-redo.ensures ∙ ap (λ g. after_edit g c.effect-item.result.edit) c.loop-effect.invariant
    ∙ ap (λ e. after_edit (replay start (edits_in (take i effects))) e.edit) c.effect-item.is)

pub returns : goal.returns
returns c =
    let effects = c.args.effects.now in
    let all = take_all c.loop-effect.effect-index effects
    (omega (arith, c.loop-effect-test.false, c.loop-effect.auto.effect-index-end)) in
    c.loop-effect.invariant ∙ ap (λ es. replay (framework_of c.args.framework.now) (edits_in es)) all
