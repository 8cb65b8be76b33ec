use Rattle.std.proofs.Common.{◌∙◌, sym, map, ap}
use Rattle.std.specs.Prelude.{nat_eq}
use Rattle.std.specs.Cmp.Lexicographic.{pointwise}
use Rattle.certificate_text.proofs.LiteralLemmas.{literals_start, literals_next, literals_closed, literals_open}
use Rattle.certificate_text.proofs.step.read_literals.Goals as goal

pub loop-field-init : goal.loop-field-init
loop-field-init c = rw c.requires (literals_start _)

pub loop-field-preserved : goal.loop-field-preserved
loop-field-preserved c =
    literals_next _ _ _ _ _ _ c.loop-field.invariant (ap (map (λ f. f.text)) c.in-Some.ensures.steps)
    (ap (λ w. pointwise nat_eq c.in-Some.field.text.now w) (sym c.as_slice.ensures) ∙ sym c.if-eq.ensures)
    c.in_ok-readable.ensures

pub returns-then-eq : goal.returns-then-eq
returns-then-eq c =
    rw c.closed.ensures
    (literals_closed _ _ _ _ _ c.loop-field.invariant (ap (map (λ f. f.text)) c.in-Some.ensures.steps)
    (ap (λ w. pointwise nat_eq c.in-Some.field.text.now w) (sym c.as_slice.ensures) ∙ sym c.if-eq.ensures))

pub returns : goal.returns
returns c = literals_open _ _ _ c.loop-field.invariant (ap (map (λ f. f.text)) c.in_default.ensures.steps.0)
