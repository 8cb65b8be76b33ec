use Rattle.std.proofs.Common.{arith, refl}
use Rattle.plain_lits.proofs.RowLemmas.{row_ends, row_at}
use Rattle.plain_lits.proofs.rows.row_in.Goals as goal

pub part-requires-clause-order : goal.part-requires-clause-order
part-requires-clause-order g c =
    let b = row_ends 0 c.args.ends.now c.args.index c.requires.ends.rise c.requires.within in
    let low = b.0 in
    omega (arith, c.end_before.ensures, low)

pub part-requires-clause-within : goal.part-requires-clause-within
part-requires-clause-within g c =
    let b = row_ends 0 c.args.ends.now c.args.index c.requires.ends.rise c.requires.within in
    let high = b.1 in
    let last = c.requires.ends.last in
    omega (arith, high, last)

pub returns : goal.returns
returns g c = rw c.part.ensures (row_at c.args.items.now c.args.ends.now c.args.index _ _ c.requires.within
    c.end_before.ensures refl)
