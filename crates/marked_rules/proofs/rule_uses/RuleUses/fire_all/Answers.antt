use Rattle.std.proofs.Common.{◌≤◌, ◌<◌, length, get_or, arith}
use Rattle.marked_rules.specs.Search.{heads_of}
use Rattle.marked_rules.proofs.OverlaidLemmas.{length_overlaid}
use Rattle.marked_rules.proofs.SearchLemmas.{goes_not, fires_next, fires_all, rule_counted}
use Rattle.marked_rules.proofs.rule_uses.RuleUses.fire_all.Goals as goal

pub loop-rule-init : goal.loop-rule-init
loop-rule-init c = goes_not c.args.plain.now c.args.self.now 0 c.args.closing.now c.requires.search

pub overflow_cast-rule : goal.overflow_cast-rule
overflow_cast-rule c =
    let lt : c.loop-rule.rule < length (heads_of c.args.plain.now) =
    rw c.rule_heads-rule-end.ensures.value at c.loop-rule-test.true in
    omega (arith, c.requires.few.rules, rule_counted _ _ _ _ _ _ lt c.loop-rule.invariant.search)

pub fire-requires-clause-counted : goal.fire-requires-clause-counted
fire-requires-clause-counted c =
    let lt : c.loop-rule.rule < length (heads_of c.args.plain.now) =
    rw c.rule_heads-rule-end.ensures.value at c.loop-rule-test.true in
    rule_counted _ _ _ _ _ _ lt c.loop-rule.invariant.search

pub fire-requires-clause-fits : goal.fire-requires-clause-fits
fire-requires-clause-fits c = c.loop-rule.invariant.search.fits

pub loop-rule-preserved : goal.loop-rule-preserved
loop-rule-preserved c =
    let lt : c.loop-rule.rule < length (heads_of c.args.plain.now) =
    rw c.rule_heads-rule-end.ensures.value at c.loop-rule-test.true in
    fires_next c.args.plain.now c.args.self.now c.loop-rule.rule c.args.closing.now c.loop-rule.closing
    c.fire.new.closing lt c.loop-rule.invariant c.in_ok-fire.ensures

pub returns : goal.returns
returns c = fires_all c.args.plain.now c.args.self.now c.loop-rule.rule c.args.closing.now c.loop-rule.closing
    (rw c.rule_heads-rule-end.ensures.value at c.loop-rule-test.false) c.loop-rule.invariant
