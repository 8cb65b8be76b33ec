use Rattle.dung_notions.proofs.ChangeLemmas.{dropped_stored}
use Rattle.dung_notions.proofs.af_plain.AfPlain.remove_attack.Goals as goal

pub invariant_of-self : goal.invariant_of-self
invariant_of-self c =
    dropped_stored _ (c.args.attacker, c.args.target) _ _ _ _ _ c.self.invariant c.drop_pair.ensures.ways
    c.drop_pair.ensures.leaving c.drop_pair.ensures.reaching c.drop_pair.ensures.loses

pub returns-clause-form : goal.returns-clause-form
returns-clause-form c =
    (dropped_stored _ (c.args.attacker, c.args.target) _ _ _ _ _ c.self.invariant c.drop_pair.ensures.ways
    c.drop_pair.ensures.leaving c.drop_pair.ensures.reaching c.drop_pair.ensures.loses).form
