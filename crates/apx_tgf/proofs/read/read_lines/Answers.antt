use Rattle.std.proofs.Common.{false, rules, sym, subst}
use Rattle.num_text.specs.Views.{line_text}
use Rattle.apx_tgf.proofs.ReadingLemmas.{HasRead, read_none, read_more, read_all, bad_line_read, over_told}
use Rattle.apx_tgf.proofs.read.read_lines.Goals as goal

pub loop-line-init : goal.loop-line-init
loop-line-init c = subst (λ told. HasRead c.args.format c.args.left c.args.left false told) (sym c.new-told.ensures)
    (read_none c.args.format c.args.left)

pub returns-in_err-divided-clause-fault : goal.returns-in_err-divided-clause-fault
returns-in_err-divided-clause-fault c =
    let bad = bad_line_read c.args.format c.args.left c.loop-line.left c.next.new.self (line_text c.in-Some.line)
    c.loop-line.divided c.loop-line.told c.in_err-divided.field-0.0 c.loop-line.invariant c.in-Some.ensures.steps
    c.in_err-divided.ensures.fault in
    search (rules, bad)

pub loop-line-preserved : goal.loop-line-preserved
loop-line-preserved c = read_more c.args.format c.args.left c.loop-line.left c.next.new.self (line_text c.in-Some.line)
    c.loop-line.divided c.in_ok-divided.divided c.loop-line.told c.take_line.new.told c.loop-line.invariant
    c.in-Some.ensures.steps c.in_ok-divided.ensures.ok c.in_ok-within_limits.ensures.ok

pub returns-in_err-within_limits-clause-fault : goal.returns-in_err-within_limits-clause-fault
returns-in_err-within_limits-clause-fault c =
    let over = over_told c.args.format c.args.left c.loop-line.left c.next.new.self (line_text c.in-Some.line)
    c.loop-line.divided c.in_ok-divided.divided c.loop-line.told c.take_line.new.told
    c.in_err-within_limits.field-0.0 c.loop-line.invariant c.in-Some.ensures.steps c.in_ok-divided.ensures.ok
    c.in_err-within_limits.ensures.fault in
    search (rules, over)

pub returns-clause-ok : goal.returns-clause-ok
returns-clause-ok c = read_all c.args.format c.args.left c.loop-line.left c.loop-line.divided c.loop-line.told
    c.loop-line.invariant c.in_default.ensures.steps.0
