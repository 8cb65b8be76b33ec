use Rattle.std.proofs.Common.{ℕ, List, arith, subst}
use Rattle.std.proofs.lemmas.List.{take_all}
use Rattle.af_encoding.specs.Changes.{Gains, IsCalledByPairs}
use Rattle.af_encoding.proofs.GainedLemmas.{pairs_begun, pairs_go}
use Rattle.af_encoding.proofs.changing.push_targets.Goals as goal

pub loop-attack-init : goal.loop-attack-init
loop-attack-init c = pairs_begun c.args.plain.now c.args.argument c.args.dropped.now c.args.names.now.items

pub loop-attack-preserved : goal.loop-attack-preserved
loop-attack-preserved c =
    pairs_go c.args.plain.now c.args.argument c.loop-attack.attack-index c.args.dropped.now (0, 0)
    c.args.names.now.items c.loop-attack.names.items c.push_target.new.names.items c.loop-attack-test.true
    c.loop-attack.invariant c.in_ok-push_target.ensures

pub returns : goal.returns
returns c =
    subst (λ (ps : List (ℕ × ℕ)). Gains (IsCalledByPairs c.args.plain.now c.args.argument ps) c.args.names.now.items
    c.loop-attack.names.items) (take_all c.loop-attack.attack-index c.args.dropped.now (omega arith))
    c.loop-attack.invariant
