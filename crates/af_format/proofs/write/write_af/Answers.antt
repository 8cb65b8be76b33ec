use Rattle.std.proofs.Common.{sym, ap, ◌∙◌, ◌≤◌, length, subst}
use Rattle.num_text.specs.declared.limit.TheConstants.{MAX_INPUT}
use Rattle.af_format.specs.AfText.{ReadsAs}
use Rattle.af_format.proofs.RoundTrip.{reads_back, text_within}
use Rattle.af_format.proofs.write.write_af.Goals as goal

pub returns-clause-back : goal.returns-clause-back
returns-clause-back c = λ few.
    subst (λ text. ReadsAs text c.args.framework.now)
    (sym (c.from_vec.ensures ∙ ap (λ v. v.items) c.into_bytes.ensures.value ∙ c.in_ok-text.ensures.text))
    (reads_back c.args.framework.now c.text_of.ensures.form.form c.requires few)

pub returns-clause-within : goal.returns-clause-within
returns-clause-within c = λ few.
    subst (λ text. length text ≤ MAX_INPUT)
    (sym (c.from_vec.ensures ∙ ap (λ v. v.items) c.into_bytes.ensures.value ∙ c.in_ok-text.ensures.text))
    (text_within c.args.framework.now c.text_of.ensures.form.form c.requires few)
