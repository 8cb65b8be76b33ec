use Rattle.std.proofs.Common.{List, map, subst}
use Rattle.edit_rules.specs.Kinds.{framework_of}
use Rattle.edit_rules.specs.declared.framework.Framework.{Framework as Held}
use Rattle.core_events.specs.declared.machine.Machine.{Machine}
use Rattle.core_events.specs.Machines.{AreNewParts}
use Rattle.core_events.proofs.MachineLemmas.{opens}
use Rattle.core_events.proofs.machine.Machine.open.Goals as goal

pub returns : goal.returns
returns c =
    let m : Machine = record {
      parts = c.in_ok-parts.parts;
      uses = c.in_ok-numbers.numbers;
      core = c.in_ok-core.core;
    } in
    opens (map framework_of c.args.frameworks) c.args.uses.now c.args.limit c.args.log_limit m c.requires
    (subst (λ (hs : List Held). AreNewParts (map framework_of hs) c.in_ok-parts.parts.items) c.into_vec.ensures
    c.in_ok-parts.ensures)
    c.in_ok-numbers.ensures c.in_ok-core.ensures
