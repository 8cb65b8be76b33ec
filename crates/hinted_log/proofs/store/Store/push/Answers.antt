use Rattle.std.proofs.Common.{arith}
use Rattle.plain_lits.proofs.TrailLemmas.{pushed_in_room}
use Rattle.hinted_log.proofs.Parts.{pushed_step, given_ok}
use Rattle.hinted_log.proofs.store.Store.push.Goals as goal

pub returns-clause-ok : goal.returns-clause-ok
returns-clause-ok c =
    let inside = c.self.inside in
    let kinds = pushed_in_room c.push-3.result _ _ c.args.kind _ c.push-3.ensures.full
    (λ full. omega (arith, c.in_ok-reserve.ensures.ok)) c.push-3.ensures.items in
    rw (← c.self.view_is) (
    pushed_step inside.clauses c.push-2.new.self inside.kinds.items c.push-3.new.self.items inside.hints c.push.new.self
    c.args.clause.now c.args.kind c.args.hints.now c.self.invariant
    (given_ok _ _ c.push-2.ensures.ok c.if-is_err.ensures.value) (rw c.reserve.ensures.items at kinds)
    c.in_ok-push.ensures.ok
    )
