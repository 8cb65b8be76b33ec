use Rattle.std.proofs.Common.{sym, subst}
use Rattle.std.specs.Prelude.{map}
use Rattle.script_text.proofs.ReadNumbers.{HaveRead, read_more, taken_texts}
use Rattle.script_text.proofs.arguments.readings_of.Goals as goal

pub loop-field-preserved : goal.loop-field-preserved
loop-field-preserved c =
    let texts = taken_texts c.loop-field.fields c.next_number.new.self c.in-Some.field.text.now c.in-Some.ensures.some in
    subst (λ rs. HaveRead (map (λ f. f.text) c.args.fields) (map (λ f. f.text) c.next_number.new.self) rs)
    (sym c.in_ok-push.ensures.ok)
    (read_more _ _ _ c.in-Some.field.text.now c.loop-field.readings c.in-Some.field.number c.loop-field.invariant texts
    c.in-Some.ensures.number)
