use Rattle.std.proofs.Common.{◌≡◌, ◌-◌, length, arith, subst}
use Rattle.attack_index.specs.Offsets.{AreFrom}
use Rattle.attack_index.proofs.block.Block.of_rising.Goals as goal

pub offsets_of-requires-clause-firsts : goal.offsets_of-requires-clause-firsts
offsets_of-requires-clause-firsts c = rw c.deref.ensures.value c.requires.firsts

pub invariant_of-result : goal.invariant_of-result
invariant_of-result c =
    let width : c.args.width ≡ length c.in_ok-offsets.offsets.items - 1 = omega (arith, c.in_ok-offsets.ensures.long) in
    record {
      rise = c.requires.rise;
      begins = rw c.deref.ensures.value at c.in_ok-offsets.ensures.offsets;
      reach = omega (arith, c.in_ok-offsets.ensures.long);
      fits = omega (arith, c.in_ok-offsets.ensures.long, c.requires.fits);
      firsts = subst (λ n. AreFrom c.args.base n c.args.pairs.items) width c.requires.firsts;
    }
