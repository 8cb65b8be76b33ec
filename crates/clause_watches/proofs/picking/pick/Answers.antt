use Rattle.clause_watches.specs.Arenas.{blank}
use Rattle.clause_watches.proofs.Pairing.{pair_empty, last_empty}
use Rattle.clause_watches.proofs.picking.pick.Goals as goal

pub returns-in-None : goal.returns-in-None
returns-in-None c = record {
  pair = pair_empty c.args.clause.now c.pair_with.result blank blank c.pair_with.ensures.first
      c.pair_with.ensures.second c.in-None.ensures;
  last = last_empty c.args.trail.now.lits c.args.clause.now c.pair_with.result c.in-None.ensures;
}

pub pick_second-requires : goal.pick_second-requires
pick_second-requires c = record {
  packs = c.requires;
  there = c.in-Some.ensures.0;
  best = λ l there. c.in-Some.ensures.2 l there (λ e. e);
}
