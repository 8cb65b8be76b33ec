use Rattle.std.proofs.Common.{List, ℕ, arith, drop, length, subst, sym}
use Rattle.std.specs.Prelude.{OnOk}
use Rattle.std.proofs.lemmas.List.{take_at}
use Rattle.attack_index.specs.Offsets.{block_of}
use Rattle.attack_index.specs.Blocks.{BlockGains}
use Rattle.attack_index.proofs.BlockLemmas.{block_gains}
use Rattle.attack_index.proofs.block.Block.insert.Goals as goal

pub returns-clause-gains : goal.returns-clause-gains
returns-clause-gains c =
    let old = c.self.inside in
    let new = c.put_in.new in
    let long = rw c.as_mut_slice.ensures.value at c.put_in.ensures.long in
    let whole = take_at new.offsets (drop (length new.offsets) old.offsets.items) old.offsets.len
    (omega (arith, long, old.offsets.ok.0)) in
    rw (← c.self.view_is)
    (subst (λ (os : List ℕ). OnOk c.put_in.result (BlockGains (c.args.first, c.args.second)
    (block_of old.base old.pairs.items old.offsets.items) (block_of old.base new.pairs.items os))) (sym whole)
    (block_gains (c.args.first, c.args.second) old.base old.pairs.items new.pairs.items
    old.offsets.items new.offsets c.put_in.result c.put_in.ensures.table long c.put_in.ensures.gains))
