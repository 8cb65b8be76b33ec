use Rattle.std.proofs.Common.{arith}
use Rattle.plain_lits.proofs.TrailLemmas.{pushed_in_room}
use Rattle.plain_lits.proofs.RowLemmas.{pushed_rows, pushed_ends}
use Rattle.plain_lits.proofs.rows.Rows.push.Goals as goal

pub invariant_of-self-2 : goal.invariant_of-self-2
invariant_of-self-2 g c =
    let inside = c.self.inside in
    let ends = pushed_in_room c.push.result _ _ c.len-end.result _ c.push.ensures.full
    (λ full. omega (arith, c.in_ok-reserve.ensures.ok)) c.push.ensures.items in
    pushed_ends inside.items.items c.args.row.now c.extend_from_slice.new.self.items inside.ends.items
    c.push.new.self.items c.len-end.result c.self.invariant c.in_ok-extend_from_slice.ensures.items (omega arith)
    (rw c.reserve.ensures.items at ends)

pub returns-clause-ok : goal.returns-clause-ok
returns-clause-ok g c =
    let inside = c.self.inside in
    let ends = pushed_in_room c.push.result _ _ c.len-end.result _ c.push.ensures.full
    (λ full. omega (arith, c.in_ok-reserve.ensures.ok)) c.push.ensures.items in
    rw (← c.self.view_is) (
    pushed_rows inside.items.items c.args.row.now c.extend_from_slice.new.self.items inside.ends.items
    c.push.new.self.items c.len-end.result c.self.invariant c.in_ok-extend_from_slice.ensures.items (omega arith)
    (rw c.reserve.ensures.items at ends)
    )
