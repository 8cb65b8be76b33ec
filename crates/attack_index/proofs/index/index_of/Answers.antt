use Rattle.std.proofs.Common.{refl}
use Rattle.attack_index.proofs.index.index_of.Goals as goal

pub invariant_of-result : goal.invariant_of-result
invariant_of-result c = rw c.in_ok-block.ensures (record {
  base = refl;
  fits = c.requires.fits;
  rise = c.requires.rise;
  below = c.requires.below;
})
