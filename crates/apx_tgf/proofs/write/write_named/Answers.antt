use Rattle.std.proofs.Common.{◌≡◌, ◌++◌, sym, ap, subst, ◌∙◌}
use Rattle.af_format.specs.AfText.{ReadsAs}
use Rattle.apx_tgf.specs.Written.{name_lines}
use Rattle.apx_tgf.proofs.CommentLemmas.{reads_behind_names}
use Rattle.apx_tgf.proofs.write.write_named.Goals as goal

pub returns-clause-back : goal.returns-clause-back
returns-clause-back c = λ few few_names are.
    let whole : c.extend.new.self ≡ name_lines 1 c.args.names.now ++ c.as_slice.result.now
    = c.in_ok-extend.ensures.ok ∙ ap (λ text. text ++ c.as_slice.result.now) c.in_ok-text.ensures in
    let reads : ReadsAs c.as_slice.result.now c.args.framework.now
    = subst (λ text. ReadsAs text c.args.framework.now) (sym c.as_slice.ensures)
    (c.in_ok-framework_text.ensures.back few) in
    subst (λ text. ReadsAs text c.args.framework.now) (sym whole)
    (reads_behind_names c.args.names.now c.as_slice.result.now c.args.framework.now few_names are reads)
