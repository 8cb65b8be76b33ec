use Rattle.num_text.specs.Cuts.{lines_of}
use Rattle.iccma_tasks.proofs.Lines.{ReadTo}
use Rattle.iccma_tasks.proofs.read.read_lines.Given as goal

abbrev pub invariant-loop-line : goal.invariant-loop-line
invariant-loop-line l = ReadTo (lines_of l.fn.bytes) l.line-iterator l.count l.answer
