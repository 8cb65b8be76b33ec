use Rattle.std.proofs.Common.{rules}
use Rattle.num_text.specs.Lines.{kept}
use Rattle.num_text.specs.Views.{line_text}
use Rattle.aba_format.proofs.LineLemmas.{read_next, read_fault, read_none}
use Rattle.aba_format.proofs.read.take_lines.Goals as goal

pub loop-line-init : goal.loop-line-init
loop-line-init c = read_none c.args.count (kept c.args.left) c.in_ok-parts.parts c.in_ok-parts.ensures

pub loop-line-preserved : goal.loop-line-preserved
loop-line-preserved c = read_next c.args.count (kept c.args.left) (kept c.loop-line.left) (kept c.next_kept.new.lines)
    (line_text c.in-Some.line) c.loop-line.parts _ c.requires.rise c.loop-line.invariant c.in-Some.ensures.some
    c.in_ok-take_line.ensures.ok

pub returns-in_err-take_line-clause-fault : goal.returns-in_err-take_line-clause-fault
returns-in_err-take_line-clause-fault c =
    let bad = read_fault c.args.count (kept c.args.left) (kept c.loop-line.left) (kept c.next_kept.new.lines)
    (line_text c.in-Some.line) c.loop-line.parts c.in_err-take_line.field-0.0 c.loop-line.invariant
    c.in-Some.ensures.some c.in_err-take_line.ensures.fault in
    search (rules, bad)
