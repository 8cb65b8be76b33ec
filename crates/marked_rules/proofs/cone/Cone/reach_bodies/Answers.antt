use Rattle.std.proofs.Common.{ℕ, ◌+◌, arith}
use Rattle.std.proofs.lemmas.List.Elements.{Contains-get_or}
use Rattle.marked_rules.specs.Cone.{IsUsedFor, StandsSecond}
use Rattle.marked_rules.proofs.ConeLemmas.{IsInFirst, body_low, bodies_next, bodies_all, reaches_not, reaches_then, reaches_fewer}
use Rattle.marked_rules.proofs.cone.Cone.reach_bodies.Goals as goal

pub loop-rule-init : goal.loop-rule-init
loop-rule-init c = reaches_not (IsInFirst c.args.plain.now c.headed_by-rules.result.now 0) c.args.self.now
    c.requires.listed (λ x w. absurd (omega (arith, w.first)))

pub body_of-requires : goal.body_of-requires
body_of-requires c = ((c.headed_by-rules.ensures.rules _ _).0
    (Contains-get_or c.headed_by-rules.result.now c.loop-rule.rule-index (0, 0) c.loop-rule-test.true)).1

pub reach_all-requires-clause-within : goal.reach_all-requires-clause-within
reach_all-requires-clause-within c = λ p m.
    let lt = ((c.headed_by-rules.ensures.rules _ _).0
    (Contains-get_or c.headed_by-rules.result.now c.loop-rule.rule-index (0, 0) c.loop-rule-test.true)).1 in
    omega (
      arith,
      body_low c.args.plain.now c.body_of.result.now _ c.requires.form lt c.body_of.ensures.value p m,
      c.requires.long,
      c.loop-rule.invariant.long,
    )

pub reach_all-requires-clause-listed : goal.reach_all-requires-clause-listed
reach_all-requires-clause-listed c = c.loop-rule.invariant.listed

pub loop-rule-preserved : goal.loop-rule-preserved
loop-rule-preserved c =
    let f = c.args.plain.now in
    let rules = c.headed_by-rules.result.now in
    let body = c.body_of.result.now in
    let n = c.loop-rule.rule-index in
    reaches_then (IsInFirst f rules n) (StandsSecond body) (IsInFirst f rules (n + 1)) c.args.self.now c.loop-rule.self
    c.reach_all.new.self (λ x w. bodies_next f rules body n x c.body_of.ensures.value w) c.loop-rule.invariant
    c.in_ok-reach_all.ensures

pub returns : goal.returns
returns c =
    let f = c.args.plain.now in
    let rules = c.headed_by-rules.result.now in
    let n = c.loop-rule.rule-index in
    reaches_fewer (IsInFirst f rules n) (IsUsedFor f c.args.atom) c.args.self.now c.loop-rule.self
    (λ x w. bodies_all f rules c.args.atom n x c.loop-rule-test.false c.headed_by-rules.ensures.rules w)
    c.loop-rule.invariant
