use Rattle.std.proofs.Common.{Some, ap, refl, sym, ◌∙◌}
use Rattle.turn_lock.proofs.lock.TurnLock.leave.Goals as goal

pub pass-requires-clause-leaving : goal.pass-requires-clause-leaving
pass-requires-clause-leaving g c = rw c.put_in.ensures.full (record {
  value = c.args.held.value;
  hand = refl;
  inside = c.requires.entered.0;
  opening_is = c.requires.ours.1 ∙ ap (λ o. Some o) (sym c.requires.opening);
  continued = c.requires.continued;
})
