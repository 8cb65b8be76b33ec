use Rattle.std.proofs.Common.{length, arith, ap}
use Rattle.plain_lits.proofs.RowLemmas.{length-rows}
use Rattle.plain_lits.proofs.rows.Rows.row.Goals as goal

pub row_in-requires-clause-within : goal.row_in-requires-clause-within
row_in-requires-clause-within g c =
    let inside = c.self.inside in
    let long = length-rows inside.items.items 0 inside.ends.items in
    let same = ap length c.self.view_is in
    omega (arith, c.as_slice-2.ensures.len, c.requires, long, same)

pub returns : goal.returns
returns g c = rw (c.as_slice.ensures.value, c.as_slice-2.ensures.value, c.self.view_is) at c.row_in.ensures
