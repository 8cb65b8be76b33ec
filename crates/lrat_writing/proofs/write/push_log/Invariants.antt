use Rattle.std.proofs.Common.{◌≡◌, take}
use Rattle.lrat_writing.specs.Writers.{IsWriterOf}
use Rattle.lrat_writing.proofs.write.push_log.Given as goal

abbrev pub invariant-loop-index : goal.invariant-loop-index
invariant-loop-index l = record {
  steps : IsWriterOf (take l.index l.log.steps) l.writer;
  count : l.writer.count ≡ l.fn.writer.count;
}
