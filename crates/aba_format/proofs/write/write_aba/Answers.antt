use Rattle.std.proofs.Common.{sym, ap, ◌∙◌, subst}
use Rattle.aba_format.specs.AbaText.{ReadsAs}
use Rattle.aba_format.proofs.WrittenLemmas.{reads_back}
use Rattle.aba_format.proofs.write.write_aba.Goals as goal

pub returns-clause-back : goal.returns-clause-back
returns-clause-back c = λ few.
    subst (λ text. ReadsAs text c.args.framework.now)
    (sym (c.from_vec.ensures ∙ ap (λ v. v.items) c.into_bytes.ensures.value ∙ c.in_ok-text.ensures.text))
    (reads_back c.args.framework.now c.text_of.ensures.form c.requires few)
