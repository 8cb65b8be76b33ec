use Rattle.std.proofs.Common.{arith, ◌≡◌, ◌-◌, length, ap, ◌∙◌}
use Rattle.std.proofs.lemmas.List.{get_or_default, length-drop}
use Rattle.edit_history.proofs.ServerLemmas.{opening_begins, opening_ends, opening_taken}
use Rattle.edit_history.proofs.server.Server.open.Goals as goal

pub loop-count-init : goal.loop-count-init
loop-count-init g c =
    opening_begins c.args.frameworks.items c.args.limit c.args.counts.now c.new-hubs.result.items
    c.new-seats.result.items c.new-hubs.ensures.items c.new-seats.ensures.items

pub remove-framework-requires : goal.remove-framework-requires
remove-framework-requires g c =
    let loop = c.loop-count in
    let long : length loop.left.items ≡ length c.args.frameworks.items - loop.count-index =
    ap length loop.invariant.left_are ∙ length-drop loop.count-index c.args.frameworks.items in
    let whole = loop.left.ok in
    let same = c.requires.counts in
    let more = c.loop-count-test.true in
    omega (arith, long, whole, same, more)

pub loop-count-preserved : goal.loop-count-preserved
loop-count-preserved g c =
    let loop = c.loop-count in
    let same = c.requires.counts in
    let more = c.loop-count-test.true in
    opening_taken c.args.frameworks.items c.args.limit c.args.counts.now loop.count-index loop.left.items
    c.remove-framework.new.self.items loop.hubs.items c.push.new.self.items loop.seats.items c.append.new.self.items
    c.in_ok-hub.own.items c.remove-framework.result _ c.in_ok-hub.hub (omega (arith, same, more))
    c.remove-framework.ensures.value c.remove-framework.ensures.by_index.2
    (get_or_default c.args.counts.now loop.count-index 0 _ more) more c.in_ok-push.ensures.items
    c.in_ok-append.ensures.items c.in_ok-hub.ensures.start c.in_ok-hub.ensures.limit c.in_ok-hub.ensures.count
    c.in_ok-hub.ensures.seats loop.invariant

pub returns-clause-server : goal.returns-clause-server
returns-clause-server g c =
    let loop = c.loop-count in
    let end = loop.auto.count-index-end in
    let over = c.loop-count-test.false in
    opening_ends c.args.frameworks.items c.args.limit c.args.counts.now loop.count-index loop.left.items
    loop.hubs.items loop.seats.items (omega (arith, end, over)) c.requires.counts loop.invariant

pub returns-clause-seats : goal.returns-clause-seats
returns-clause-seats g c = c.loop-count.invariant.seats_are
