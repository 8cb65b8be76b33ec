use Rattle.std.proofs.Common.{◌≡◌, ◌+◌, length, get_or, length-set, replicate, arith, ap, ◌∙◌, subst}
use Rattle.std.proofs.lemmas.List.{length-replicate}
use Rattle.std.proofs.lemmas.List.Elements.{Contains-get_or}
use Rattle.attack_index.specs.Offsets.{IsEndOf}
use Rattle.attack_index.proofs.OffsetLemmas.{ends_none, ends_more}
use Rattle.attack_index.proofs.block.ends.Goals as goal

pub loop-index-init : goal.loop-index-init
loop-index-init c =
    let all : c.in_ok-ends.ends.items ≡ replicate (c.args.width + 1) 0 = c.in_ok-ends.ensures.items_if_clones_equal
    (λ y e. e) in (
      ap (λ xs. length xs) all ∙ length-replicate (c.args.width + 1) 0,
      ends_none c.args.base c.args.pairs.now (c.args.width + 1) c.in_ok-ends.ends.items all (omega arith),
    )

pub index_mut-requires : goal.index_mut-requires
index_mut-requires c =
    let small = c.requires.firsts _ (Contains-get_or c.args.pairs.now c.loop-index.index (0, 0) c.loop-index-test.true)
    in
    omega (arith, small.0, small.1, c.loop-index.invariant.0, c.loop-index.ends.ok.0)

pub loop-index-preserved : goal.loop-index-preserved
loop-index-preserved c =
    let small = c.requires.firsts _ (Contains-get_or c.args.pairs.now c.loop-index.index
    (0, 0) c.loop-index-test.true) in (
      length-set c.loop-index.ends.items _ _ ∙ c.loop-index.invariant.0,
      ends_more c.args.base c.args.pairs.now c.loop-index.index c.loop-index.ends.items c.loop-index-test.true
          small.0 (omega (arith, small.0, small.1, c.loop-index.invariant.0)) c.loop-index.invariant.1,
    )

pub returns-clause-ends : goal.returns-clause-ends
returns-clause-ends c =
    let whole : c.loop-index.index ≡ length c.args.pairs.now =
    omega (arith, c.loop-index-test.false, c.loop-index.auto.index-end) in
    λ k lt. subst (λ m. IsEndOf (c.args.base + k) c.args.pairs.now m (get_or c.loop-index.ends.items (k + 1) 0)) whole
    (c.loop-index.invariant.1.each k (omega (arith, lt, c.loop-index.invariant.0)))

pub overflow_sub-pair : goal.overflow_sub-pair
overflow_sub-pair c =
    (c.requires.firsts _ (Contains-get_or c.args.pairs.now c.loop-index.index (0, 0) c.loop-index-test.true)).0
