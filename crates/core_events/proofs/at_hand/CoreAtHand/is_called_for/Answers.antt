use Rattle.std.proofs.Common.{◌∙◌, List, ap, sym, take}
use Rattle.edit_history.specs.declared.entry.HistoryEntry.{HistoryEntry}
use Rattle.core_logs.proofs.NewTests.{ok_carried}
use Rattle.core_machine.specs.Core.{CoreSession}
use Rattle.core_events.specs.AtHand.{core_of}
use Rattle.core_events.proofs.CallLemmas.{named_in_pool, called_needed}
use Rattle.core_events.proofs.StateLemmas.{seated}
use Rattle.core_events.proofs.at_hand.CoreAtHand.is_called_for.Goals as goal

pub returns : goal.returns
returns c =
    ok_carried c.is_needed_among.result c.is_needed_among.ensures
    (λ b h.
    let m = c.args.self.now in
    let there = seated m c.args.session c.args.index c.index.result.now c.requires c.index.ensures in
    called_needed (core_of c.args.self.now) c.args.session c.args.name.now b c.is_named.result
    c.front-seen.result.now
    (c.front-seen.ensures
    ∙ (ap (λ (es : List HistoryEntry). take c.index.result.now.session.seen es) c.as_slice-2.ensures.value
    ∙ ap (λ (x : CoreSession). take x.seen m.history.items) (sym there)))
    (named_in_pool m c.is_named.result c.as_slice.result.now c.args.name.now c.as_slice.ensures.value
    c.is_named.ensures)
    c.if-is_named.false h)
