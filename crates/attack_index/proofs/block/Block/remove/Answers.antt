use Rattle.std.proofs.Common.{List, ℕ, arith, drop, length, subst, sym}
use Rattle.std.proofs.lemmas.List.{take_at}
use Rattle.attack_index.specs.Offsets.{block_of}
use Rattle.attack_index.specs.Blocks.{BlockLoses}
use Rattle.attack_index.proofs.BlockLemmas.{block_loses}
use Rattle.attack_index.proofs.block.Block.remove.Goals as goal

pub returns : goal.returns
returns c =
    let old = c.self.inside in
    let new = c.take_out.new in
    let long = rw c.as_mut_slice.ensures.value at c.take_out.ensures.long in
    let whole = take_at new.offsets (drop (length new.offsets) old.offsets.items) old.offsets.len
    (omega (arith, long, old.offsets.ok.0)) in
    rw (← c.self.view_is)
    (subst (λ (os : List ℕ). BlockLoses (c.args.first, c.args.second)
    (block_of old.base old.pairs.items old.offsets.items) (block_of old.base new.pairs.items os)) (sym whole)
    (block_loses (c.args.first, c.args.second) old.base old.pairs.items new.pairs.items
    old.offsets.items new.offsets c.take_out.ensures.table long c.take_out.ensures.loses))
