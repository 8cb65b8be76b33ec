use Rattle.std.proofs.Common.{◌<◌, length, true, arith}
use Rattle.marked_rules.specs.Search.{derived_in}
use Rattle.marked_rules.proofs.StartLemmas.{derived_long, written_more, written_all, tells_derived}
use Rattle.marked_rules.proofs.rule_uses.RuleUses.base_of.Goals as goal

pub loop-atom-init : goal.loop-atom-init
loop-atom-init c = c.new-base.ensures.items

pub loop-atom-preserved : goal.loop-atom-preserved
loop-atom-preserved c =
    let all = derived_in c.args.self.now c.args.closing.now in
    let long = derived_long c.args.self.now c.args.closing.now in
    let ok = c.args.self.now.start.base.ok.0 in
    let low : c.loop-atom.atom < length all = omega (arith, c.loop-atom-test.true, c.len-atom-end.ensures, ok, long) in
    written_more true all c.loop-atom.atom c.loop-atom.base.items c.push.new.self.items _ low c.loop-atom.invariant
    (tells_derived all c.loop-atom.atom _ low c.knows.ensures) c.in_ok-push.ensures.items

pub returns : goal.returns
returns c =
    let long = derived_long c.args.self.now c.args.closing.now in
    let ok = c.args.self.now.start.base.ok.0 in
    written_all _ c.loop-atom.atom c.loop-atom.base.items
    (omega (arith, c.loop-atom-test.false, c.len-atom-end.ensures, ok, long)) c.loop-atom.invariant
