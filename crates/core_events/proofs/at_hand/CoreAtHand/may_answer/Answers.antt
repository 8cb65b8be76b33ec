use Rattle.std.proofs.Common.{◌∙◌, List, ap, sym, take}
use Rattle.edit_rules.specs.Kinds.{framework_of}
use Rattle.edit_history.specs.declared.entry.HistoryEntry.{HistoryEntry}
use Rattle.edit_history.specs.Entries.{framework_after}
use Rattle.core_logs.proofs.NewTests.{ok_carried}
use Rattle.core_machine.specs.Core.{CoreSession}
use Rattle.core_events.specs.AtHand.{core_of}
use Rattle.core_events.proofs.AnswerLemmas.{may_by}
use Rattle.core_events.proofs.StateLemmas.{seated}
use Rattle.core_events.proofs.at_hand.CoreAtHand.may_answer.Goals as goal

pub returns : goal.returns
returns c =
    ok_carried c.may_end.result c.may_end.ensures
    (λ b h.
    let m = c.args.self.now in
    let there = seated m c.args.session c.args.index c.index-seat.result.now c.requires c.index-seat.ensures in
    let seen = c.front-seen.ensures
    ∙ (ap (λ (es : List HistoryEntry). take c.index-seat.result.now.session.seen es) c.as_slice.ensures.value
    ∙ ap (λ (x : CoreSession). take x.seen m.history.items) (sym there)) in
    may_by (core_of m) c.args.session c.args.query.now c.args.budget c.args.pending.now c.args.outcome.now
    (framework_of c.in_ok-framework.framework) c.log-log.result.now c.index-seat.result.now.session.answered b
    (c.in_ok-framework.ensures ∙ ap (framework_after (framework_of m.opening)) seen)
    (c.log-log.ensures.log ∙ ap (λ (x : CoreSession). x.log) (sym there))
    (ap (λ (x : CoreSession). x.answered) (sym there)) h)
