use Rattle.std.proofs.Common.{◌≡◌, ◌++◌, take, string_bytes}
use Rattle.std.specs.Prelude.{All}
use Rattle.std.specs.List.{flat_map}
use Rattle.std.specs.List.Sorted.{IsStrictlyIncreasing}
use Rattle.iccma_tasks.specs.WrittenText.{set_line}
use Rattle.iccma_tasks.proofs.write.push_sets.Given as goal

abbrev pub invariant-loop-set : goal.invariant-loop-set
invariant-loop-set l = record {
  text : string_bytes l.text ≡ string_bytes l.fn.text ++ flat_map set_line (take l.set-index l.sets);
  rises : All IsStrictlyIncreasing (take l.set-index l.sets);
}
