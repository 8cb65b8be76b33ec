use Rattle.std.proofs.Common.{sym, map, ap, ◌∙◌}
use Rattle.lrat_text.specs.LratText.{LiteralsSay}
use Rattle.lrat_text.proofs.LineParts.{part_read, pass_next, pass_closed, pass_open, taken}
use Rattle.lrat_text.proofs.lrat_line.read_literals.Goals as goal

pub returns-then-is_zero : goal.returns-then-is_zero
returns-then-is_zero c =
    part_read (λ front. LiteralsSay c.args.vars front c.loop-field.literals.items) _ _ _ _ _
    (pass_closed (λ front. LiteralsSay c.args.vars front c.loop-field.literals.items c.loop-field.cause) _ _ _ _ _ c.loop-field.invariant
    (taken _ _ _ c.in-Some.ensures.some) (sym c.is_zero.ensures ∙ c.if-is_zero.true))

pub loop-field-preserved : goal.loop-field-preserved
loop-field-preserved c =
    pass_next (λ front. LiteralsSay c.args.vars front c.loop-field.literals.items c.loop-field.cause)
    (λ front. LiteralsSay c.args.vars front c.add_literal.new.literals.items c.in_ok-cause.cause) _ _ _ _ _ c.loop-field.invariant
    (taken _ _ _ c.in-Some.ensures.some) (sym c.is_zero.ensures ∙ c.if-is_zero.false) c.in_ok-cause.ensures

pub returns : goal.returns
returns c =
    part_read (λ front. LiteralsSay c.args.vars front c.loop-field.literals.items) _ _ _ _ _
    (pass_open (λ front. LiteralsSay c.args.vars front c.loop-field.literals.items c.loop-field.cause) _ _ _ _ c.loop-field.invariant
    (ap (map (λ f. f.text)) c.in_default.ensures.none))
