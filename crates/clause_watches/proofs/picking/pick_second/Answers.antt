use Rattle.clause_watches.proofs.Pairing.{pair_alone, pair_two, last_alone, last_two}
use Rattle.clause_watches.proofs.picking.pick_second.Goals as goal

pub returns-in-None : goal.returns-in-None
returns-in-None c = record {
  pair = pair_alone c.args.clause.now c.args.first c.pair_with.result c.pair_with.ensures.first
      c.pair_with.ensures.second c.in-None.ensures;
  last = last_alone c.args.trail.now.lits c.args.clause.now c.args.first c.pair_with.result c.pair_with.ensures.first
      c.in-None.ensures;
  first = c.pair_with.ensures.first;
}

pub returns-in-Some : goal.returns-in-Some
returns-in-Some c = record {
  pair = pair_two c.args.clause.now c.args.first c.in-Some.second c.pair_with-in-Some.result
      c.pair_with-in-Some.ensures.first c.pair_with-in-Some.ensures.second
      c.requires.there c.in-Some.ensures.0 c.in-Some.ensures.1;
  last = last_two c.args.trail.now.lits c.args.clause.now c.args.first c.in-Some.second c.pair_with-in-Some.result
      c.pair_with-in-Some.ensures.first c.pair_with-in-Some.ensures.second c.requires.best c.in-Some.ensures.2;
  first = c.pair_with-in-Some.ensures.first;
}
