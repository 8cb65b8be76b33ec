use Rattle.std.proofs.Common.{◌≡◌, ◌<◌, length, map, rules}
use Rattle.edit_rules.specs.Kinds.{framework_of}
use Rattle.core_events.proofs.MachineLemmas.{part_made, parts_made}
use Rattle.core_events.proofs.machine.parts_for.Goals as goal

pub loop-alloc-preserved : goal.loop-alloc-preserved
loop-alloc-preserved c =
    let lt : 0 < length c.loop-alloc.rest.items = search rules in
    part_made (map framework_of c.args.frameworks.items) c.loop-alloc.rest.items c.remove-framework.new.self.items
    c.loop-alloc.parts.items c.push.new.self.items c.remove-framework.result c.part_for.result c.loop-alloc.invariant lt
    c.remove-framework.ensures.value c.remove-framework.ensures.items c.part_for.ensures.is c.part_for.ensures.form
    c.in_ok-push.ensures.items

pub returns : goal.returns
returns c =
    let none : length c.loop-alloc.rest.items ≡ 0 = search rules in
    parts_made (map framework_of c.args.frameworks.items) c.loop-alloc.rest.items c.loop-alloc.parts.items
    c.loop-alloc.invariant none
