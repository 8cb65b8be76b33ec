use Rattle.std.proofs.Common.{◌≡◌, length, arith}
use Rattle.plain_lits.proofs.RowLemmas.{popped_rows, popped_ends}
use Rattle.plain_lits.proofs.rows.Rows.pop.Goals as goal

pub invariant_of-self : goal.invariant_of-self
invariant_of-self g c =
    let inside = c.self.inside in
    let count : c.len.result ≡ length c.pop.new.self.items = omega arith in
    popped_ends inside.items.items c.truncate.new.self.items inside.ends.items c.pop.new.self.items c.in-Some.field-0
    c.end_before-kept.result c.self.invariant c.in-Some.ensures.items
    (rw (c.as_slice.ensures.value, count) at c.end_before-kept.ensures) c.truncate.ensures.items

pub returns-in-Some : goal.returns-in-Some
returns-in-Some g c =
    let inside = c.self.inside in
    let count : c.len.result ≡ length c.pop.new.self.items = omega arith in
    rw (← c.self.view_is) (
    popped_rows inside.items.items c.truncate.new.self.items inside.ends.items c.pop.new.self.items c.in-Some.field-0
    c.end_before-kept.result c.self.invariant c.in-Some.ensures.items
    (rw (c.as_slice.ensures.value, count) at c.end_before-kept.ensures) c.truncate.ensures.items
    )
