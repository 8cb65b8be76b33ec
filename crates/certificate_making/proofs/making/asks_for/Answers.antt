use Rattle.std.proofs.Common.{◌≡◌, ◌≤◌, arith}
use Rattle.edit_rules.specs.Kinds.{framework_of}
use Rattle.certificate_making.proofs.MakingLemmas.{asks_all, asks_more, asks_none}
use Rattle.certificate_making.proofs.making.asks_for.Goals as goal

pub loop-set-preserved : goal.loop-set-preserved
loop-set-preserved g c =
    asks_more (g.L.ReadLog.log c.args.log.now).sides (framework_of c.args.framework.now) c.args.kind c.args.sets.now
    c.loop-set.set-index _ c.in_ok-ask_for.field-0 c.loop-set.asks.items c.push.new.self.items c.loop-set.invariant
    c.set-item.is c.loop-set-test.true c.in_ok-ask_for.ensures c.in_ok-push.ensures.items

pub returns : goal.returns
returns g c =
    let low = c.loop-set-test.false in
    let high = c.loop-set.auto.set-index-end in
    asks_all (g.L.ReadLog.log c.args.log.now).sides (framework_of c.args.framework.now) c.args.kind c.args.sets.now
    c.loop-set.set-index c.loop-set.asks.items c.loop-set.invariant (omega (arith, low, high))
