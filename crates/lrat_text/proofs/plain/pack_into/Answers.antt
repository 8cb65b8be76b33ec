use Rattle.plain_lits.specs.declared.lit.Lit.{Lit}
use Rattle.std.proofs.Common.{false}
use Rattle.plain_lits.proofs.CheckingLemmas.{item_read, item_member}
use Rattle.lrat_text.proofs.plain.pack_into.Goals as goal

abbrev blank : Lit
blank = record { var = 0; positive = false }

pub pack-requires : goal.pack-requires
pack-requires c = c.requires _
    (item_member _ _ _ (item_read c.args.clause.now c.loop-lit.lit-index blank c.loop-lit-test.true))
