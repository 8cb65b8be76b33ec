use Rattle.std.proofs.Common.{rules, sym, subst}
use Rattle.num_text.specs.Views.{line_text}
use Rattle.apx_tgf.specs.ApxText.{tokens_of}
use Rattle.apx_tgf.specs.Taking.{TakesFact}
use Rattle.apx_tgf.proofs.ApxLemmas.{HasTaken, taken_none, taken_more, taken_all, fewer_left, bad_line_told, otherwise}
use Rattle.apx_tgf.proofs.apx_line.take_apx_line.Goals as goal

pub loop-first-init : goal.loop-first-init
loop-first-init c = subst
    (λ left. HasTaken c.args.line.now.number (tokens_of c.args.line.now.text.now) left c.args.told.now c.args.told.now)
    (sym c.new-tokens.ensures)
    (taken_none c.args.line.now.number (tokens_of c.args.line.now.text.now) c.args.told.now)

pub loop-first-smaller : goal.loop-first-smaller
loop-first-smaller c = fewer_left c.args.line.now.number _ _ _ _ c.loop-first.told c.take_fact.new.told
    c.in-Some.ensures.some c.in_ok-take_fact.ensures.ok

pub loop-first-preserved : goal.loop-first-preserved
loop-first-preserved c = taken_more c.args.line.now.number (tokens_of c.args.line.now.text.now) c.loop-first.tokens
    c.take_fact.new.tokens c.args.told.now c.loop-first.told c.take_fact.new.told c.loop-first.invariant
    (subst (λ left. TakesFact c.args.line.now.number left c.take_fact.new.tokens c.loop-first.told c.take_fact.new.told)
    (sym c.in-Some.ensures.some) c.in_ok-take_fact.ensures.ok)

pub returns-in_err-take_fact-clause-fault : goal.returns-in_err-take_fact-clause-fault
returns-in_err-take_fact-clause-fault c =
    let bad = bad_line_told (line_text c.args.line.now) c.in-Some.first.now c.loop-first.tokens c.next.new.self
    c.args.told.now c.loop-first.told c.in_err-take_fact.field-0.0
    (otherwise _ _ c.is_remark.ensures c.if-is_remark.false) c.loop-first.invariant c.in-Some.ensures.some
    c.in_err-take_fact.ensures.fault in
    search (rules, bad)

pub returns-clause-ok : goal.returns-clause-ok
returns-clause-ok c = taken_all (line_text c.args.line.now) c.loop-first.tokens c.args.told.now c.loop-first.told
    (otherwise _ _ c.is_remark.ensures c.if-is_remark.false) c.loop-first.invariant
    c.in_default.ensures.none
