use Rattle.dung_notions.proofs.ChangeLemmas.{put_stored, same_pairs}
use Rattle.dung_notions.proofs.af_plain.AfPlain.insert_attack.Goals as goal

pub put_pair-requires-clause-leaving : goal.put_pair-requires-clause-leaving
put_pair-requires-clause-leaving c =
    let live = rw (← c.self.view_is) at c.requires in
    (c.self.invariant.leave c.args.attacker live.0, c.self.invariant.leave c.args.target live.1)

pub put_pair-requires-clause-reaching : goal.put_pair-requires-clause-reaching
put_pair-requires-clause-reaching c =
    let live = rw (← c.self.view_is) at c.requires in
    (c.self.invariant.reach c.args.attacker live.0, c.self.invariant.reach c.args.target live.1)

pub invariant_of-self : goal.invariant_of-self
invariant_of-self c =
    put_stored _ (c.args.attacker, c.args.target) _ _ _ _ _ c.put_pair.result c.self.invariant
    (rw (← c.self.view_is) at c.requires) c.put_pair.ensures.ways c.put_pair.ensures.leaving
    c.put_pair.ensures.reaching c.put_pair.ensures.gains
    (same_pairs _ _ c.put_pair.result c.put_pair.ensures.err)

pub returns-clause-form : goal.returns-clause-form
returns-clause-form c =
    (put_stored _ (c.args.attacker, c.args.target) _ _ _ _ _ c.put_pair.result c.self.invariant
    (rw (← c.self.view_is) at c.requires) c.put_pair.ensures.ways c.put_pair.ensures.leaving
    c.put_pair.ensures.reaching c.put_pair.ensures.gains
    (same_pairs _ _ c.put_pair.result c.put_pair.ensures.err)).form
