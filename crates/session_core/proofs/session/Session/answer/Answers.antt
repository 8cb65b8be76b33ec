use Rattle.std.proofs.Common.{◌≡◌, ◌∷◌, ◌++◌, [], rules, subst}
use Rattle.clause_pool.specs.Pools.{AreInRow, AreTokensOf}
use Rattle.session_core.proofs.SessionLemmas.{rest_more, row_more}
use Rattle.session_core.proofs.session.Session.answer.Goals as goal

pub returns-clause-pooled : goal.returns-clause-pooled
returns-clause-pooled g c =
    let told = c.in_ok-told.told in
    let old = c.args.self.now in
    let before = old.answers.items in
    let after = c.push.new.self.items in
    let more : after ≡ before ++ told.kept ∷ [] = search rules in
    record {
      own = rest_more c.args.pool.now before after told.kept more
          (subst (λ pool. AreTokensOf pool told.kept.tokens) c.new-trade.ensures.pool c.in_ok-told.ensures.tokens);
      row = row_more before after told.kept old.taken told.next more
          (subst (λ first. AreInRow first told.kept.tokens told.next) c.new-trade.ensures.next
          c.in_ok-told.ensures.row);
    }
