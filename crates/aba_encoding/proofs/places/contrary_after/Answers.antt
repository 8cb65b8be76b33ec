use Rattle.std.proofs.Common.{◌<◌, ap, length, arith, subst, sym}
use Rattle.meaning_atoms.specs.AbaReadings.{HasContrary}
use Rattle.edit_rules.specs.AbaEdits.{contraries_of}
use Rattle.aba_encoding.specs.Places.{IsNextAfter}
use Rattle.aba_encoding.proofs.ContraryPlaces.{contrary_next, contrary_none, how_many}
use Rattle.aba_encoding.proofs.places.contrary_after.Goals as goal

pub returns-then-first-contraries_of-clause-none : goal.returns-then-first-contraries_of-clause-none
returns-then-first-contraries_of-clause-none c =
    let f = c.args.plain.now in
    let same = how_many f c.next-next.ensures.form c.args.atom in
    let long = ap length c.contraries_of.ensures.value in
    let all = c.if-first-contraries_of.true in
    contrary_none f c.next-next.ensures.form c.args.atom c.args.number c.contraries_below-first.result
    c.contraries_below-first.ensures.cut (omega arith)

pub contrary_at-requires : goal.contrary_at-requires
contrary_at-requires c =
    let same = how_many c.args.plain.now c.next-next.ensures.form c.args.atom in
    let long = ap length c.contraries_of.ensures.value in
    let some = c.if-first-contraries_of.false in
    let bound = c.contraries_below-first.ensures.bound in
    omega arith

pub returns-clause-some : goal.returns-clause-some
returns-clause-some c =
    let f = c.args.plain.now in
    let same = how_many f c.next-next.ensures.form c.args.atom in
    let long = ap length c.contraries_of.ensures.value in
    let some = c.if-first-contraries_of.false in
    let bound = c.contraries_below-first.ensures.bound in
    let within : c.contraries_below-first.result < length (contraries_of f.contraries c.args.atom) = omega arith in
    subst (λ m. IsNextAfter (HasContrary f c.args.atom) c.args.number m) (sym c.contrary_at.ensures)
    (contrary_next f c.next-next.ensures.form c.args.atom c.args.number c.contraries_below-first.result
    c.contraries_below-first.ensures.cut within)
