use Rattle.std.proofs.Common.{arith}
use Rattle.clause_watches.proofs.Pairing.{outlasts_by}
use Rattle.clause_watches.proofs.picking.outlasts.Goals as goal

pub returns-then-rank-passed : goal.returns-then-rank-passed
returns-then-rank-passed c = record {
  later = let more = c.if-rank-passed.true in
      outlasts_by c.args.trail.now.lits c.args.lit c.args.other c.rank_of-rank.result c.rank_of-passed.result
      c.rank_of-rank.ensures c.rank_of-passed.ensures (omega arith);
  sooner = tt;
}

pub returns : goal.returns
returns c = record {
  later = tt;
  sooner = let less = c.if-rank-passed.false in
      outlasts_by c.args.trail.now.lits c.args.other c.args.lit c.rank_of-passed.result c.rank_of-rank.result
      c.rank_of-passed.ensures c.rank_of-rank.ensures (omega arith);
}
