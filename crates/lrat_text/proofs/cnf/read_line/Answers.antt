use Rattle.std.proofs.Common.{rules}
use Rattle.lrat_text.proofs.CnfLines.{line_bad, line_over, line_next}
use Rattle.lrat_text.proofs.LineParts.{taken}
use Rattle.lrat_text.proofs.cnf.read_line.Goals as goal

pub returns-in_default-signed : goal.returns-in_default-signed
returns-in_default-signed c =
    line_bad _ _ _ _ _ _ _ _ c.loop-field.invariant (taken _ _ _ c.in-Some.ensures.some) c.in_default-signed.ensures.none

pub loop-field-preserved-then-lit-vars : goal.loop-field-preserved-then-lit-vars
loop-field-preserved-then-lit-vars c =
    line_over _ _ _ _ _ _ _ _ c.in-Some-signed.lit c.loop-field.invariant (taken _ _ _ c.in-Some.ensures.some)
    c.in-Some-signed.ensures.some (search rules)

pub loop-field-preserved : goal.loop-field-preserved
loop-field-preserved c =
    line_next _ _ _ _ _ _ _ _ _ c.in-Some-signed.lit c.loop-field.invariant (taken _ _ _ c.in-Some.ensures.some)
    c.in-Some-signed.ensures.some (search rules) c.in_ok-add.ensures
