use Rattle.std.proofs.Common.{◌≡◌, ◌+◌, sym, ◌∙◌, refl, subst, arith}
use Rattle.std.specs.Prelude.{IfOk}
use Rattle.std.specs.List.Sorted.{IsStrictlyIncreasing}
use Rattle.std.proofs.lemmas.Iterator.{items_from_collect, YieldsList-from_range}
use Rattle.bench_runs.proofs.Numbers.{numbers_rise}
use Rattle.bench_runs.proofs.framework.arguments.Goals as goal

pub from_rising-requires : goal.from_rising-requires
from_rising-requires c =
    let all = rw c.in_ok-numbers.was at
    (items_from_collect c.collect.result c.collect.ensures.ran
    (YieldsList-from_range 1 (c.args.n + 1) c.args.n refl (omega arith))) in
    subst IsStrictlyIncreasing (sym (c.deref.ensures.value ∙ all)) (numbers_rise c.args.n)

pub returns : goal.returns
returns c =
    let all = rw c.in_ok-numbers.was at
    (items_from_collect c.collect.result c.collect.ensures.ran
    (YieldsList-from_range 1 (c.args.n + 1) c.args.n refl (omega arith))) in
    subst (λ xs. IfOk c.from_rising.result (λ s. s ≡ xs)) (c.deref.ensures.value ∙ all) c.from_rising.ensures
