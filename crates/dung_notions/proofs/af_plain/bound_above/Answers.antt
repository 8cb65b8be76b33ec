use Rattle.std.proofs.Common.{◌-◌, length, arith}
use Rattle.std.proofs.lemmas.List.Elements.{Contains-get_or}
use Rattle.dung_notions.proofs.StorageLemmas.{largest_is_last}
use Rattle.dung_notions.proofs.af_plain.bound_above.Goals as goal

pub returns-in-Some-clause-above : goal.returns-in-Some-clause-above
returns-in-Some-clause-above c = λ a h.
    let up = largest_is_last c.args.live.now 0 a c.as_slice.ensures.rises h in
    let last = rw c.as_slice.ensures.value at (c.in-Some.ensures.item.3.1 0) in
    omega (arith, up, last)

pub returns-in-Some-clause-fits : goal.returns-in-Some-clause-fits
returns-in-Some-clause-fits c =
    let some' = rw c.as_slice.ensures.value at c.in-Some.ensures.item.3.0 in
    let last = rw c.as_slice.ensures.value at (c.in-Some.ensures.item.3.1 0) in
    let live = c.requires _ (Contains-get_or c.args.live.now (length c.args.live.now - 1) 0 (omega (arith, some'))) in
    omega (arith, last, live.high)
