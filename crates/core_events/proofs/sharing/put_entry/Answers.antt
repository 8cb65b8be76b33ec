use Rattle.std.proofs.Common.{◌∙◌, ap, sym}
use Rattle.core_events.specs.Places.{pool_of}
use Rattle.core_events.proofs.SharingLemmas.{on_ok_to, put_new}
use Rattle.core_events.proofs.sharing.put_entry.Goals as goal

pub returns-in_default-clause-ok : goal.returns-in_default-clause-ok
returns-in_default-clause-ok c =
    on_ok_to c.add_indexed.result c.add_indexed.ensures.ok
    (put_new c.args.places.now.items c.add_indexed.new.places.items c.args.index c.args.entry
    (ap (λ ps. pool_of ps c.args.index) (sym c.as_slice.ensures.value) ∙ c.in_default.ensures.none))
