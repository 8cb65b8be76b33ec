use Rattle.std.proofs.Common.{ℕ, ◌≡◌, ◌+◌, get_or, arith}
use Rattle.std.proofs.lemmas.List.Elements.{Contains-get_or}
use Rattle.marked_sets.proofs.MarkLemmas.{IsSecond}
use Rattle.marked_rules.specs.Cone.{StandsSecond}
use Rattle.marked_rules.proofs.ConeLemmas.{reaches_not, reaches_then, reaches_fewer, second_next, second_all}
use Rattle.marked_rules.proofs.cone.Cone.reach_all.Goals as goal

pub loop-pair-init : goal.loop-pair-init
loop-pair-init c = reaches_not (IsSecond c.args.pairs.now 0) c.args.self.now c.requires.listed
    (λ x w. absurd (omega (arith, w.first)))

pub reach-requires-clause-within : goal.reach-requires-clause-within
reach-requires-clause-within c =
    omega (
      arith,
      c.loop-pair.invariant.long,
      c.requires.within _ (Contains-get_or c.args.pairs.now c.loop-pair.pair-index (0, 0) c.loop-pair-test.true),
    )

pub reach-requires-clause-listed : goal.reach-requires-clause-listed
reach-requires-clause-listed c = c.loop-pair.invariant.listed

pub loop-pair-preserved : goal.loop-pair-preserved
loop-pair-preserved c =
    let pairs = c.args.pairs.now in
    let n = c.loop-pair.pair-index in
    reaches_then (IsSecond pairs n) (λ x. x ≡ (get_or pairs n (0, 0)).1) (IsSecond pairs (n + 1)) c.args.self.now
    c.loop-pair.self c.reach.new.self (λ x w. second_next pairs n x w) c.loop-pair.invariant c.in_ok-reach.ensures

pub returns : goal.returns
returns c =
    let pairs = c.args.pairs.now in
    let n = c.loop-pair.pair-index in
    reaches_fewer (IsSecond pairs n) (StandsSecond pairs) c.args.self.now c.loop-pair.self
    (λ x h. second_all pairs n x c.loop-pair-test.false h) c.loop-pair.invariant
