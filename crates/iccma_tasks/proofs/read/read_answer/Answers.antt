use Rattle.iccma_tasks.proofs.Exact.{exact_read, exact_told}
use Rattle.iccma_tasks.proofs.read.read_answer.Goals as goal

pub returns-clause-read : goal.returns-clause-read
returns-clause-read c =
    exact_read c.args.bytes.now c.read_lines.result c.read_lines.ensures.answer c.read_lines.ensures.fault

pub returns-clause-told : goal.returns-clause-told
returns-clause-told c =
    exact_told c.args.bytes.now c.read_lines.result c.read_lines.ensures.answer c.read_lines.ensures.fault
