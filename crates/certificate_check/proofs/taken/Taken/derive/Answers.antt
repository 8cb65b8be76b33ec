use Rattle.std.proofs.Common.{refl}
use Rattle.certificate_check.proofs.RowsLemmas.{not_derived, derived_true}
use Rattle.certificate_check.proofs.taken.Taken.derive.Goals as goal

pub returns-then-not-derived : goal.returns-then-not-derived
returns-then-not-derived c =
    let none = not_derived c.args.self.now c.args.clause.now c.args.hints.now _ _ _ _
    (rw (c.as_slice-places.ensures.value, c.as_slice.ensures.value) at c.in_ok-name_rows.ensures)
    c.as_slice-2.ensures.value c.in_ok-derived.ensures c.if-not-derived.true in
    (none.0, (none.1, (refl, refl)))

pub returns : goal.returns
returns c =
    derived_true c.args.self.now _ _ c.args.clause.now c.args.hints.now _ _ _ _
    (rw (c.as_slice-places.ensures.value, c.as_slice.ensures.value) at c.in_ok-name_rows.ensures)
    c.as_slice-2.ensures.value c.in_ok-derived.ensures c.if-not-derived.false refl refl refl c.in_ok-note_row.ensures
