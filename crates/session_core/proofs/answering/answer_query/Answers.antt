use Rattle.std.proofs.Common.{ap, map, subst, sym}
use Rattle.std.proofs.lemmas.List.Elements.{All-nil}
use Rattle.clause_pool.specs.Pools.{AreInRow, AreTokensOf, IsTokenOf, entry_of}
use Rattle.oracle_core.specs.Engines.{EngineState}
use Rattle.framework_solver.specs.Stepping.{GoesOnBySteps}
use Rattle.clause_pool.proofs.RowLemmas.{none_yet}
use Rattle.session_core.proofs.ReplyLemmas.{told_is}
use Rattle.session_core.proofs.answering.answer_query.Goals as goal

pub returns-clause-told : goal.returns-clause-told
returns-clause-told g c =
    let old = c.args.engine.now in
    let end = c.answer-end in
    let new = end.new.self in
    told_is old.framework old.number c.args.query.now c.args.limit old.log new.log new.pending c.new-budget.result
    end.new.budget end.result
    (record {
      body = c.in_ok-body.body;
      kept = record {
        before = c.steps-before.result;
        after = c.steps-after.result;
        pending = c.in_ok-pending.pending;
        tokens = c.into_taken.result;
      };
      next = c.next-next.result;
    })
    c.new-budget.ensures.limit c.new-budget.ensures.used end.ensures.within end.ensures.fits end.ensures.shown
    end.ensures.cut end.ensures.cause end.ensures.run
    (λ so. ap (λ (e : EngineState). e.log) (end.ensures.by_grounded so).0)
    (λ so. subst (λ tokens. GoesOnBySteps old.framework old.number (map entry_of tokens) old.log new.log)
    (sym c.into_taken.ensures) (end.ensures.steps so)) end.ensures.in_hand end.ensures.by_log
    c.in_ok-body.ensures c.in_ok-pending.ensures c.steps-before.ensures c.steps-after.ensures

pub returns-clause-tokens : goal.returns-clause-tokens
returns-clause-tokens g c =
    let pool = c.args.trade.pool.now in
    subst (AreTokensOf pool) (sym c.into_taken.ensures)
    (c.answer-end.ensures.follows.own (subst (AreTokensOf pool) (sym c.requires) (All-nil (IsTokenOf pool))))

pub returns-clause-row : goal.returns-clause-row
returns-clause-row g c =
    let trade = c.args.trade in
    let last = c.answer-end.new.trade in
    subst (λ next. AreInRow trade.next c.into_taken.result next) (sym c.next-next.ensures)
    (subst (λ tokens. AreInRow trade.next tokens last.next) (sym c.into_taken.ensures)
    (c.answer-end.ensures.follows.row trade.next (none_yet trade.taken trade.next c.requires)))
