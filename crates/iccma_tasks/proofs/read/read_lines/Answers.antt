use Rattle.std.proofs.Common.{sym, ◌∙◌, subst, arith}
use Rattle.std.specs.Prelude.{None}
use Rattle.num_text.specs.Cuts.{lines_of}
use Rattle.iccma_tasks.proofs.Lines.{ReadTo, AreNumbered, read_start, read_next, read_told, read_nothing, counted-le}
use Rattle.iccma_tasks.proofs.read.read_lines.Goals as goal

pub loop-line-init : goal.loop-line-init
loop-line-init c =
    subst (λ left. ReadTo (lines_of c.args.bytes.now) left 0 None)
    (sym c.lines-line-items.ensures.all ∙ sym c.into_iter-line-iterator.ensures.into_iter_gives)
    (read_start (lines_of c.args.bytes.now))

pub returns-in-Err-clause-fault : goal.returns-in-Err-clause-fault
returns-in-Err-clause-fault c =
    read_told c.args.bytes.now _ _ _ _ _ c.in-Err.fault c.loop-line.invariant c.in-Some.ensures.steps
    c.in-Err.ensures.fault

pub loop-line-preserved : goal.loop-line-preserved
loop-line-preserved c =
    read_next _ _ _ _ _ _ _
    (subst AreNumbered c.lines-line-items.ensures.all c.lines-line-items.ensures.numbers)
    c.loop-line.invariant c.in-Some.ensures.steps c.in-Ok.ensures.answer

pub overflow_add-result : goal.overflow_add-result
overflow_add-result c =
    let few = counted-le c.args.bytes.now _ _ _ c.loop-line.invariant in omega arith

pub returns-in_default-clause-fault : goal.returns-in_default-clause-fault
returns-in_default-clause-fault c =
    read_nothing _ _ _ (subst (ReadTo (lines_of c.args.bytes.now) _ c.loop-line.count) c.in_default.is
    c.loop-line.invariant)
    c.in-None.ensures.steps.0
