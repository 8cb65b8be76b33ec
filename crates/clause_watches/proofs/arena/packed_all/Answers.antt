use Rattle.plain_lits.proofs.CheckingLemmas.{item_read, item_member}
use Rattle.clause_watches.specs.Arenas.{blank}
use Rattle.clause_watches.proofs.arena.packed_all.Goals as goal

pub pack-requires : goal.pack-requires
pack-requires c =
    c.requires _ (item_member _ _ _ (item_read c.args.clause.now c.loop-lit.lit-index blank c.loop-lit-test.true))
