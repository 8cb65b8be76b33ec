use Rattle.std.proofs.Common.{◌≡◌, ◌+◌, sym, ◌∙◌, refl, subst, arith}
use Rattle.std.specs.Prelude.{IfOk}
use Rattle.std.specs.List.Sorted.{IsStrictlyIncreasing}
use Rattle.std.proofs.lemmas.Iterator.{items_from_collect, YieldsList-from_range}
use Rattle.apx_tgf.proofs.framework.arguments.Goals as goal
use Rattle.lists.proofs.Ranges.{numbers_rise}

pub from_rising-requires : goal.from_rising-requires
from_rising-requires c =
    let all = rw c.in_ok-numbers.was at
    (items_from_collect c.collect.result c.collect.ensures.ran
    (YieldsList-from_range 1 (c.args.count + 1) c.args.count refl (omega arith))) in
    subst IsStrictlyIncreasing (sym (c.deref.ensures.value ∙ all)) (numbers_rise c.args.count)

pub returns : goal.returns
returns c =
    let all = rw c.in_ok-numbers.was at
    (items_from_collect c.collect.result c.collect.ensures.ran
    (YieldsList-from_range 1 (c.args.count + 1) c.args.count refl (omega arith))) in
    subst (λ xs. IfOk c.from_rising.result (λ s. s ≡ xs)) (c.deref.ensures.value ∙ all) c.from_rising.ensures
