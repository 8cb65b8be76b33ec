use Rattle.std.proofs.Common.{sym, ◌∙◌}
use Rattle.std.proofs.lemmas.Bool.{false≢true}
use Rattle.lrat_text.proofs.LineForms.{form_unclosed, form_done, form_third, form_more, form_zero}
use Rattle.lrat_text.proofs.lrat_line.has_form.Goals as goal

pub returns-then-not-is_zero : goal.returns-then-not-is_zero
returns-then-not-is_zero c = λ rest p. (
  λ e. absurd (false≢true e),
  λ h. absurd (form_unclosed c.args.id.now rest (sym c.is_zero.ensures ∙ c.if-not-is_zero.true) p.literals_closed
      (sym p.hints_closed ∙ c.if-hints.false) h),
)

pub returns-then-hints : goal.returns-then-hints
returns-then-hints c = λ rest p.
    let done = p.done_is c.if-hints.true in
    let form = form_done c.args.id.now rest (sym c.is_zero.ensures ∙ c.if-not-is_zero.true) p.literals_closed
    (sym p.hints_closed ∙ c.if-hints.true) in
    (λ e. form.0 (done.0 e), λ h. done.1 (form.1 h))

pub returns-then-hints-2 : goal.returns-then-hints-2
returns-then-hints-2 c = λ rest p. (
  λ e. absurd (false≢true e),
  λ h. absurd (form_third c.args.id.now rest (sym c.is_zero.ensures ∙ c.if-not-is_zero.false) p.literals_closed
      (sym p.hints_closed ∙ c.if-hints-2.true) h),
)

pub returns-then-hints-3 : goal.returns-then-hints-3
returns-then-hints-3 c = λ rest p. (
  λ e. absurd (false≢true e),
  λ h. absurd (form_more c.args.id.now rest (sym c.is_zero.ensures ∙ c.if-not-is_zero.false) p.literals_closed
      (sym p.hints_closed ∙ c.if-hints-2.false) (sym p.hints_filled ∙ c.if-hints-3.true) h),
)

pub returns : goal.returns
returns c = λ rest p.
    let form = form_zero c.args.id.now rest (sym c.is_zero.ensures ∙ c.if-not-is_zero.false) p.literals_closed
    (sym p.hints_closed ∙ c.if-hints-2.false) (sym p.hints_filled ∙ c.if-hints-3.false) in
    (λ e. form.0 (sym p.literals_filled ∙ e), λ h. p.literals_filled ∙ form.1 h)
