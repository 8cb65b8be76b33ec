use Rattle.std.proofs.Common.{◌∙◌, ap, subst, sym}
use Rattle.std.specs.Prelude.{◌↔◌, IfOk, IsTrue}
use Rattle.session_log.specs.OwnSteps.{IsWanted}
use Rattle.core_machine.specs.Core.{CoreSession}
use Rattle.core_machine.specs.Steps.{IsCalledFor}
use Rattle.core_events.specs.AtHand.{core_of}
use Rattle.core_events.proofs.CallLemmas.{loop_wanted}
use Rattle.core_events.proofs.StateLemmas.{seated}
use Rattle.core_events.proofs.at_hand.CoreAtHand.is_wanted.Goals as goal

pub returns-then-is_loop_clause : goal.returns-then-is_loop_clause
returns-then-is_loop_clause c =
    loop_wanted (core_of c.args.self.now) c.args.session c.args.name.now c.is_new.result c.steps.result.now
    c.as_slice.result.now (sym c.is_loop_clause.ensures ∙ c.if-is_loop_clause.true)
    (c.steps.ensures ∙ ap (λ (x : CoreSession). x.log.steps)
    (sym (seated c.args.self.now c.args.session c.args.index c.index.result.now c.requires.at c.index.ensures)))
    (c.as_slice.ensures ∙ c.in_ok-clause.ensures.table) c.is_new.ensures

pub returns : goal.returns
returns c =
    let core = core_of c.args.self.now in
    subst (λ loop. IfOk c.is_called_for.result (λ is. IsTrue is
    ↔ IsWanted (IsCalledFor core c.args.session) (core.sessions c.args.session).log c.args.name.now loop))
    (sym (sym c.is_loop_clause.ensures ∙ c.if-is_loop_clause.false)) c.is_called_for.ensures
