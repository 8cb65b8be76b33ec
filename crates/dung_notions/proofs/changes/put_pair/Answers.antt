use Rattle.std.proofs.Common.{sym, subst, ◌∙◌}
use Rattle.std.proofs.lemmas.Bool.{false≢true}
use Rattle.attack_index.specs.Offsets.{IndexedPairs}
use Rattle.dung_notions.specs.Storage.{AreTwoWays}
use Rattle.dung_notions.proofs.ChangeLemmas.{gained_both, given_back}
use Rattle.dung_notions.proofs.changes.put_pair.Goals as goal

pub returns-in-Ok-clause-ways : goal.returns-in-Ok-clause-ways
returns-in-Ok-clause-ways c =
    gained_both (c.args.attacker, c.args.target) c.args.outgoing.now.pairs c.insert-2.new.self.pairs
    c.args.incoming.now.pairs c.insert.new.self.pairs c.requires.ways c.in-Ok.ensures.gains c.in_ok-insert.ensures.gains

pub returns-in-Err-clause-ways : goal.returns-in-Err-clause-ways
returns-in-Err-clause-ways c =
    subst (λ (i : IndexedPairs). AreTwoWays i.pairs c.remove.new.self.pairs) (sym c.in-Err.ensures.err)
    (given_back (c.args.attacker, c.args.target) c.args.outgoing.now.pairs c.args.incoming.now.pairs
    c.insert.new.self.pairs c.remove.new.self.pairs c.requires.ways
    (λ there. false≢true (sym c.if-has.false ∙ c.has.ensures.1 there)) c.in_ok-insert.ensures.gains
    c.remove.ensures.loses)
