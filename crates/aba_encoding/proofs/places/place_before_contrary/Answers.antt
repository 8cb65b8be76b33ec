use Rattle.std.proofs.Common.{◌-◌, ◌+◌, arith, subst, sym}
use Rattle.meaning_atoms.specs.AbaReadings.{HasContrary}
use Rattle.aba_encoding.specs.Places.{IsPlaceBefore}
use Rattle.aba_encoding.proofs.ContraryPlaces.{contrary_high, contrary_place_first, contrary_place_next}
use Rattle.aba_encoding.proofs.places.place_before_contrary.Goals as goal

pub returns-then-before-eq0 : goal.returns-then-before-eq0
returns-then-before-eq0 c =
    contrary_place_first c.args.plain.now c.next-next.ensures.form c.args.atom c.args.number
    c.contraries_below-before.result c.contraries_below-before.ensures.cut c.if-before-eq0.true c.requires

pub overflow_add-result : goal.overflow_add-result
overflow_add-result c =
    let some = c.if-before-eq0.false in
    let bound = c.contraries_below-before.ensures.bound in
    let high = contrary_high c.args.plain.now c.next-next.ensures.form c.args.atom
    (c.contraries_below-before.result - 1) (omega arith) in
    omega (arith, high, c.contrary_at.ensures)

pub returns : goal.returns
returns c =
    subst (λ m. IsPlaceBefore (HasContrary c.args.plain.now c.args.atom) c.args.number (m + 1))
    (sym c.contrary_at.ensures)
    (contrary_place_next c.args.plain.now c.next-next.ensures.form c.args.atom c.args.number
    c.contraries_below-before.result c.contraries_below-before.ensures.cut c.if-before-eq0.false
    c.contraries_below-before.ensures.bound)
