-- What a session's edits are in the core: one turn.
use Rattle.std.specs.Prelude.{◌≡◌, ℕ, Bool, List, [], ◌∷◌, ◌++◌}
use Rattle.semantics.specs.Frameworks.{Framework}
use Rattle.edit_rules.specs.declared.edit.Edit.{Edit}
use Rattle.edit_history.specs.declared.entry.HistoryEntry.{HistoryEntry}
use Rattle.edit_history.specs.Entries.{IsGroup}
use Rattle.core_machine.specs.Core.{Core}
use Rattle.core_machine.specs.Steps.{Runs, after_turn, commit}
use Rattle.session_replies.specs.declared.reply.Body.{Body}
use Rattle.session_replies.specs.declared.reply.Body.TheVariants.{Done}
use Rattle.session_replies.specs.declared.reply.Reply.{Reply}
use Rattle.session_core.specs.Replies.{IsEditReply}

-- the entry that a group of edits of a session added, where it was taken
abbrev pub added_by : ℕ → List Edit → Body → List HistoryEntry
added_by s edits (Done effects) = record { session = s; edits = edits } ∷ []
added_by s edits body = []

-- in each state of the core that has the history which the edits found, they are a run of the core: one turn, at which
-- their entry comes where the reply says that they were taken, and none where one was refused or there is no room
abbrev pub EditsAreRuns : Type 0
EditsAreRuns = (grouped : Bool) (f : Framework) (limit s : ℕ) (edits : List Edit) (before now : List HistoryEntry)
    (reply : Reply) (core : Core) → IsGroup edits → IsEditReply grouped limit f s edits before now reply
    → core.opening ≡ f
    → core.limit ≡ limit → core.history ++ added_by s edits reply.body ≡ now
    → Runs core (commit s edits ∷ []) (added_by s edits reply.body) (after_turn core s (added_by s edits reply.body))
