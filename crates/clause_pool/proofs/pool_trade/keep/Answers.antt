use Rattle.std.proofs.Common.{subst, sym}
use Rattle.std.proofs.lemmas.List.Elements.{All-push}
use Rattle.clause_pool.specs.Pools.{AreTokensOf, IsTokenOf}
use Rattle.clause_pool.proofs.pool_trade.keep.Goals as goal

pub returns-clause-shown : goal.returns-clause-shown
returns-clause-shown c = λ are.
    subst (AreTokensOf c.args.pool.now) (sym c.in_ok-push.ensures.ok)
    (All-push (IsTokenOf c.args.pool.now) c.args.tokens.now c.args.token are c.requires)
