use Rattle.std.proofs.Common.{Err}
use Rattle.std.proofs.lemmas.Bool.{false≢true}
use Rattle.attack_index.proofs.PairOrderLemmas.{found_pair}
use Rattle.attack_index.proofs.ChangeLemmas.{first_in, found_at, none_loses, taken_table, taken_loses}
use Rattle.attack_index.proofs.changes.take_out.Goals as goal

pub returns-in_default-clause-loses : goal.returns-in_default-clause-loses
returns-in_default-clause-loses c =
    none_loses c.args.pairs.now.items c.args.pair c.requires.rise
    (λ h. false≢true ((found_pair c.args.pairs.now.items c.args.pair (Err c.in_default.field-0) c.requires.rise
    (rw c.deref.ensures.value at c.in_default.ensures.bound)
    (rw c.deref.ensures.value at c.in_default.ensures.position)).1 h))

pub returns-clause-table : goal.returns-clause-table
returns-clause-table c =
    let at = found_at c.args.pairs.now.items c.args.pair c.in-Ok.index
    (rw c.deref.ensures.value at c.in-Ok.ensures.bound) (rw c.deref.ensures.value at c.in-Ok.ensures.position) in
    taken_table c.args.base c.args.pairs.now.items _ c.args.offsets.now _ c.args.pair c.in-Ok.index c.requires at.0 at.1
    c.remove.ensures.items c.lower_from.ensures

pub returns-clause-loses : goal.returns-clause-loses
returns-clause-loses c =
    let at = found_at c.args.pairs.now.items c.args.pair c.in-Ok.index
    (rw c.deref.ensures.value at c.in-Ok.ensures.bound) (rw c.deref.ensures.value at c.in-Ok.ensures.position) in
    taken_loses c.args.pairs.now.items _ c.args.pair c.in-Ok.index c.requires.rise at.0 at.1 c.remove.ensures.items

pub overflow_sub-pair : goal.overflow_sub-pair
overflow_sub-pair c =
    let at = found_at c.args.pairs.now.items c.args.pair c.in-Ok.index
    (rw c.deref.ensures.value at c.in-Ok.ensures.bound) (rw c.deref.ensures.value at c.in-Ok.ensures.position) in
    (first_in c.args.base c.args.pairs.now.items _ c.args.pair c.in-Ok.index c.requires at.0 at.1).0
