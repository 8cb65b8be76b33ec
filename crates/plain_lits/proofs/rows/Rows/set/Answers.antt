use Rattle.std.proofs.Common.{◌≡◌, ◌<◌, ◌+◌, length, get_or, ap, arith, [], ◌∷◌}
use Rattle.std.proofs.lemmas.List.{length-set}
use Rattle.plain_lits.specs.RowCuts.{rows_from, AreEnds}
use Rattle.plain_lits.proofs.RowLemmas.{replaced_rows, item_within, length-rows}
use Rattle.plain_lits.proofs.rows.Rows.set.Goals as goal

pub end_before-begin-requires : goal.end_before-begin-requires
end_before-begin-requires g c =
    let inside = c.self.inside in
    let row = rw (← c.self.view_is) at c.requires.row in
    omega (arith, row, length-rows inside.items.items 0 inside.ends.items, c.as_slice.ensures.len)

pub overflow_add-begin : goal.overflow_add-begin
overflow_add-begin g c =
    let inside = c.self.inside in
    let row = rw (← c.self.view_is) at c.requires.row in
    let within = item_within inside.items.items inside.ends.items c.args.index c.args.at c.end_before-begin.result
    c.self.invariant
    (omega (arith, row, length-rows inside.items.items 0 inside.ends.items)) (rw (← c.self.view_is) at c.requires.item)
    (rw c.as_slice.ensures.value at c.end_before-begin.ensures) in
    omega (arith, within)

pub index_mut-requires : goal.index_mut-requires
index_mut-requires g c =
    let inside = c.self.inside in
    let row = rw (← c.self.view_is) at c.requires.row in
    let within = item_within inside.items.items inside.ends.items c.args.index c.args.at c.end_before-begin.result
    c.self.invariant
    (omega (arith, row, length-rows inside.items.items 0 inside.ends.items)) (rw (← c.self.view_is) at c.requires.item)
    (rw c.as_slice.ensures.value at c.end_before-begin.ensures) in
    omega (arith, within)

pub invariant_of-self : goal.invariant_of-self
invariant_of-self g c = record {
  rise = c.self.invariant.rise;
  last = let last = c.self.invariant.last in
      omega (arith, last, length-set c.self.inside.items.items (c.end_before-begin.result + c.args.at) c.args.item);
}

pub returns : goal.returns
returns g c =
    let inside = c.self.inside in
    let row = rw (← c.self.view_is) at c.requires.row in
    rw (← c.self.view_is) (
    replaced_rows inside.items.items inside.ends.items c.args.index c.args.at c.end_before-begin.result c.args.item
    c.self.invariant
    (omega (arith, row, length-rows inside.items.items 0 inside.ends.items)) (rw (← c.self.view_is) at c.requires.item)
    (rw c.as_slice.ensures.value at c.end_before-begin.ensures)
    )
