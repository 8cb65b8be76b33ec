use Rattle.std.proofs.Common.{sym, ap, ◌∙◌, arith}
use Rattle.std.proofs.lemmas.List.{take_all}
use Rattle.apx_tgf.specs.Written.{name_lines}
use Rattle.apx_tgf.proofs.WrittenLemmas.{no_names_written, name_written}
use Rattle.apx_tgf.proofs.write.name_text.Goals as goal

pub loop-index-init : goal.loop-index-init
loop-index-init c = c.new-text.ensures ∙ sym no_names_written

pub loop-index-preserved : goal.loop-index-preserved
loop-index-preserved c = name_written c.args.names.now c.loop-index.index c.name_of.result.now c.loop-index.text
    c.write_name.new.text c.loop-index.invariant
    (let below = c.loop-index-test.true in let long = c.len-index-end.ensures in omega arith)
    c.name_of.ensures c.in_ok-write_name.ensures

pub returns : goal.returns
returns c = c.loop-index.invariant ∙ ap (λ names. name_lines 1 names)
    (take_all c.loop-index.index c.args.names.now
    (let past = c.loop-index-test.false in let long = c.len-index-end.ensures in
    let bound = c.loop-index.auto.index-end in omega arith))
