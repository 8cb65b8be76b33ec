use Rattle.std.proofs.Common.{◌++◌, ◌∙◌, ap}
use Rattle.core_events.proofs.NeedLemmas.{edits_next}
use Rattle.core_events.proofs.needs.edits_in.Goals as goal

pub loop-entry-preserved : goal.loop-entry-preserved
loop-entry-preserved c =
    edits_next c.args.entries.now c.loop-entry.entry-index c.entry-item.result c.loop-entry.edits
    c.push_edits.new.all c.loop-entry-test.true c.entry-item.is c.loop-entry.invariant
    (c.in_ok-push_edits.ensures ∙ ap (λ l. c.loop-entry.edits ++ l) c.as_slice.ensures)
