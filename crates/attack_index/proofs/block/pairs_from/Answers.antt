use Rattle.std.proofs.Common.{arith}
use Rattle.attack_index.proofs.OffsetLemmas.{cut_at, cut_in, offsets_rise, none_past, none_under}
use Rattle.attack_index.proofs.block.pairs_from.Goals as goal

pub returns-then-number-base : goal.returns-then-number-base
returns-then-number-base c = none_under c.args.base _ _ c.args.number c.requires c.if-number-base.true

pub returns-then-at-offsets : goal.returns-then-at-offsets
returns-then-at-offsets c =
    none_past c.args.base _ _ c.args.number c.requires (omega (arith, c.if-number-base.false)) c.if-at-offsets.true

pub returns : goal.returns
returns c =
    let cut = cut_in c.args.base c.args.pairs.now _ c.args.number c.requires (omega (arith, c.if-number-base.false))
    (omega (arith, c.if-at-offsets.false)) in
    cut_at c.args.pairs.now c.args.number _ _ cut.0 cut.1

pub slice_bounds-result-count : goal.slice_bounds-result-count
slice_bounds-result-count c =
    let cut = cut_in c.args.base c.args.pairs.now _ c.args.number c.requires (omega (arith, c.if-number-base.false))
    (omega (arith, c.if-at-offsets.false)) in
    offsets_rise c.args.pairs.now c.args.number _ _ cut.0 cut.1

pub slice_bounds-result-start : goal.slice_bounds-result-start
slice_bounds-result-start c =
    let cut = cut_in c.args.base c.args.pairs.now _ c.args.number c.requires (omega (arith, c.if-number-base.false))
    (omega (arith, c.if-at-offsets.false)) in
    let rising = offsets_rise c.args.pairs.now c.args.number _ _ cut.0 cut.1 in
    omega (arith, rising)
