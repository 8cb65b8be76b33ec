use Rattle.std.proofs.Common.{◌<◌, ◌≤◌, length, get_or, arith, refl}
use Rattle.marked_rules.specs.Search.{open_in}
use Rattle.marked_rules.proofs.OverlaidLemmas.{length_overlaid}
use Rattle.marked_rules.proofs.StartLemmas.{written_more, written_all}
use Rattle.marked_rules.proofs.rule_uses.RuleUses.open_counts.Goals as goal

pub loop-rule-init : goal.loop-rule-init
loop-rule-init c = c.new-found.ensures.items

pub overflow_cast-rule : goal.overflow_cast-rule
overflow_cast-rule c =
    let lt : c.loop-rule.rule < length c.args.self.now.start.open.items =
    rw c.as_slice-firsts.ensures.value at c.loop-rule-test.true in
    omega (arith, lt, c.requires.few.rules)

pub get-requires-clause-fits : goal.get-requires-clause-fits
get-requires-clause-fits c = rw c.as_slice-firsts.ensures.value c.requires.fits.counts

pub loop-rule-preserved : goal.loop-rule-preserved
loop-rule-preserved c =
    let u = c.args.self.now in
    let k = c.args.closing.now in
    let all = open_in u k in
    let lt : c.loop-rule.rule < length u.start.open.items =
    rw c.as_slice-firsts.ensures.value at c.loop-rule-test.true in
    let low : c.loop-rule.rule < length all =
    omega (arith, lt, length_overlaid 0 u.start.open.items k.open.changed (λ j. get_or k.open.left.items j 0)) in
    written_more 0 all c.loop-rule.rule c.loop-rule.found.items c.push.new.self.items _ low c.loop-rule.invariant
    (rw c.as_slice-firsts.ensures.value at c.get.ensures) c.in_ok-push.ensures.items

pub returns : goal.returns
returns c =
    let u = c.args.self.now in
    let k = c.args.closing.now in
    let all = open_in u k in
    let past : length u.start.open.items ≤ c.loop-rule.rule =
    rw c.as_slice-firsts.ensures.value at c.loop-rule-test.false in
    let end : length all ≤ c.loop-rule.rule =
    omega (arith, past, length_overlaid 0 u.start.open.items k.open.changed (λ j. get_or k.open.left.items j 0)) in
    written_all all c.loop-rule.rule c.loop-rule.found.items end c.loop-rule.invariant
