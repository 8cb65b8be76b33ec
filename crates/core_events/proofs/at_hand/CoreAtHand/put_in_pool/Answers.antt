use Rattle.std.proofs.Common.{◌≡◌, ◌∙◌, ◌∷◌, List, ap, refl, subst, sym}
use Rattle.std.specs.Prelude.{◌⊎◌, Some, None}
use Rattle.std.proofs.lemmas.List.{get_or_default}
use Rattle.core_events.specs.declared.places.IndexedEntry.{IndexedEntry}
use Rattle.core_events.specs.declared.seats.MachineSeat.{MachineSeat}
use Rattle.core_events.specs.AtHand.{core_of}
use Rattle.core_events.specs.Places.{pool_of}
use Rattle.core_events.proofs.SharingLemmas.{not_there, shares}
use Rattle.core_events.proofs.at_hand.CoreAtHand.put_in_pool.Goals as goal

pub returns-then-not-may_stand : goal.returns-then-not-may_stand
returns-then-not-may_stand c = (
  refl,
  not_there (core_of c.args.self.now) c.args.session c.args.number c.args.place c.as_slice.result.now c.args.entry
      c.may_stand.result (ap pool_of c.as_slice.ensures.value) c.requires.entry c.may_stand.ensures
      c.if-not-may_stand.true,
)

pub returns : goal.returns
returns c =
    let m = c.args.self.now in
    shares m c.args.session c.args.number c.args.place c.args.index c.index_mut.result.now c.put_entry.new.places
    c.in_ok-shared.shared c.args.entry c.requires.at c.index_mut.ensures.value c.requires.entry
    (subst (λ (ps : List IndexedEntry). (pool_of ps c.args.place ≡ None) ⊎
    (pool_of ps c.args.place ≡ Some c.args.entry))
    c.as_slice.ensures.value (c.may_stand.ensures.0 c.if-not-may_stand.false))
    c.in_ok-put_entry.ensures.ok
    (c.in_ok-shared.ensures
    ∙ ap (λ xs. c.args.number ∷ xs)
    (c.as_slice-2.ensures.value ∙ ap (λ (x : MachineSeat). x.session.shared.items)
    (c.index.ensures ∙ (get_or_default m.seats.items c.args.index c.index.result.now c.index_mut.result.now
    c.requires.at.within ∙ sym c.index_mut.ensures.value))))
