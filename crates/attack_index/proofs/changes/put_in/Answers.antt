use Rattle.attack_index.proofs.ChangeLemmas.{belongs_at, put_gains, put_table}
use Rattle.attack_index.proofs.changes.put_in.Goals as goal

pub returns-clause-table : goal.returns-clause-table
returns-clause-table c =
    put_table c.args.base c.args.pairs.now.items _ c.args.offsets.now _ c.args.pair c.in-Err.index c.requires.table
    (belongs_at c.args.pairs.now.items c.args.pair c.in-Err.index c.requires.table.rise
    (rw c.deref.ensures.value at c.in-Err.ensures.bound) (rw c.deref.ensures.value at c.in-Err.ensures.position))
    c.requires.first c.in_ok-insert.ensures.items c.raise_from.ensures

pub returns-clause-gains : goal.returns-clause-gains
returns-clause-gains c =
    put_gains c.args.pairs.now.items _ c.args.pair c.in-Err.index c.requires.table.rise
    (belongs_at c.args.pairs.now.items c.args.pair c.in-Err.index c.requires.table.rise
    (rw c.deref.ensures.value at c.in-Err.ensures.bound) (rw c.deref.ensures.value at c.in-Err.ensures.position))
    c.in_ok-insert.ensures.items
