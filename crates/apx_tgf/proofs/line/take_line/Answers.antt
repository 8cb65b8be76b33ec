use Rattle.std.proofs.Common.{rules, sym, subst}
use Rattle.std.specs.Prelude.{IfErr}
use Rattle.num_text.specs.Views.{line_text}
use Rattle.apx_tgf.specs.Taking.{IsNoLine}
use Rattle.apx_tgf.proofs.LineLemmas.{apx_line_taken, apx_line_bad}
use Rattle.apx_tgf.proofs.line.take_line.Goals as goal

pub returns-in_err-take_apx_line-in-Apx-clause-fault : goal.returns-in_err-take_apx_line-in-Apx-clause-fault
returns-in_err-take_apx_line-in-Apx-clause-fault c =
    let bad = apx_line_bad c.args.format c.args.divided (line_text c.args.line.now)
    c.in_err-take_apx_line-in-Apx.field-0.0 c.in-Apx.is c.in_err-take_apx_line-in-Apx.ensures.fault in
    search (rules, bad)

pub returns-in_ok-take_apx_line-in-Apx-clause-ok : goal.returns-in_ok-take_apx_line-in-Apx-clause-ok
returns-in_ok-take_apx_line-in-Apx-clause-ok c =
    apx_line_taken c.args.format c.args.divided (line_text c.args.line.now) c.args.told.now c.take_apx_line.new.told
    c.in-Apx.is c.in_ok-take_apx_line-in-Apx.ensures.ok

pub returns-in-Tgf-clause-fault : goal.returns-in-Tgf-clause-fault
returns-in-Tgf-clause-fault c = subst
    (λ format. IfErr c.take_tgf_line.result (IsNoLine format c.args.divided (line_text c.args.line.now)))
    (sym c.in-Tgf.is) c.take_tgf_line.ensures.fault
