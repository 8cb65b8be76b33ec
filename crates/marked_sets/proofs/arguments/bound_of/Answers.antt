use Rattle.std.proofs.Common.{arith}
use Rattle.dung_notions.proofs.StorageLemmas.{largest_is_last}
use Rattle.marked_sets.proofs.arguments.bound_of.Goals as goal

pub returns-in-Some-clause-above : goal.returns-in-Some-clause-above
returns-in-Some-clause-above c = λ a h.
    let up = largest_is_last c.args.plain.now.live 0 a c.live.ensures.form.form.live_rises h in
    let last = rw c.live.ensures.value at (c.in-Some.ensures.item.3.1 0) in
    omega (arith, up, last)
