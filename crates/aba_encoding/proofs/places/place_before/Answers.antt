use Rattle.std.proofs.Common.{◌-◌, ◌+◌, arith, subst, sym}
use Rattle.oracle_face.specs.AbaNeeded.{Heads}
use Rattle.aba_encoding.specs.Places.{IsPlaceBefore}
use Rattle.aba_encoding.proofs.HeadLemmas.{head_place_first, head_place_next, heading_high}
use Rattle.aba_encoding.proofs.places.place_before.Goals as goal

pub returns-then-before-eq0 : goal.returns-then-before-eq0
returns-then-before-eq0 c =
    head_place_first c.args.plain.now c.next-next.ensures.form c.args.atom c.args.number c.rules_below-before.result
    c.rules_below-before.ensures.cut c.if-before-eq0.true c.requires

pub overflow_add-result : goal.overflow_add-result
overflow_add-result c =
    let some = c.if-before-eq0.false in
    let bound = c.rules_below-before.ensures.bound in
    let high = heading_high c.args.plain.now c.next-next.ensures.form c.args.atom (c.rules_below-before.result - 1)
    (omega arith) in
    omega (arith, high, c.number_at.ensures)

pub returns : goal.returns
returns c =
    subst (λ m. IsPlaceBefore (Heads c.args.plain.now c.args.atom) c.args.number (m + 1)) (sym c.number_at.ensures)
    (head_place_next c.args.plain.now c.next-next.ensures.form c.args.atom c.args.number c.rules_below-before.result
    c.rules_below-before.ensures.cut c.if-before-eq0.false c.rules_below-before.ensures.bound)
