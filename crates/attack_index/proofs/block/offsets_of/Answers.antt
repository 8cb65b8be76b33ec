use Rattle.std.proofs.Common.{length-set, arith, ◌∙◌}
use Rattle.attack_index.proofs.OffsetLemmas.{filled_none, filled_more}
use Rattle.attack_index.proofs.block.offsets_of.Goals as goal

pub loop-number-init : goal.loop-number-init
loop-number-init c = (
  c.in_ok-offsets.ensures.long,
  filled_none c.args.base c.args.width c.args.pairs.now c.in_ok-offsets.offsets.items c.requires.firsts
      c.in_ok-offsets.ensures.zero
      (λ k lt. c.in_ok-offsets.ensures.ends k (omega (arith, lt, c.in_ok-offsets.ensures.long))),
)

pub loop-number-preserved : goal.loop-number-preserved
loop-number-preserved c =
    let more = filled_more c.args.base c.args.pairs.now c.loop-number.number c.loop-number.most
    c.loop-number.offsets.items c.requires.rise
    (omega (arith, c.loop-number-test.true, c.loop-number.invariant.0)) c.loop-number.invariant.1 in
    rw (c.max-most.ensures, c.as_slice.ensures.value)
    (length-set c.loop-number.offsets.items _ _ ∙ c.loop-number.invariant.0, more)

pub returns-clause-offsets : goal.returns-clause-offsets
returns-clause-offsets c = λ k lt.
    c.loop-number.invariant.1.filled k (omega (arith, lt, c.loop-number-test.false, c.loop-number.invariant.0))
