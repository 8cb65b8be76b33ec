-- A session whose replies are checked one by one.
use Rattle.std.specs.Prelude.{◌≡◌, ℕ, ◌+◌, ◌≤◌, List, drop, length, take}
use Rattle.semantics.specs.Frameworks.{Framework}
use Rattle.edit_history.specs.declared.entry.Change.{Change}
use Rattle.edit_history.specs.Entries.{entries_in, framework_after}
use Rattle.script_text.specs.declared.script.ScriptLine.{ScriptLine}
use Rattle.session_replies.specs.declared.reply.Reply.{Reply}
use Rattle.bench_runs.specs.Served.{FrontsRise}
use Rattle.bench_runs.specs.Summaries.{AreRejections}

-- the fronts of the replies that are left don't fall, and no more certificates are rejected than replies are checked
pub record MayCheck (history : List Change) (replies : List Reply) (front checked rejected : ℕ) : Type 0 where
  pub rise : FrontsRise front (drop checked replies) (length history)
  pub few : rejected ≤ checked
  pub within : checked ≤ length replies

-- of the session's lines these are left, the framework is that at the front, and so many certificates of the replies
-- before were rejected
pub record IsCheckedTo (f : Framework) (history : List Change) (lines : List ScriptLine) (replies : List Reply)
    (left : List ScriptLine) (framework : Framework) (front checked rejected : ℕ) : Type 0 where
  pub may : MayCheck history replies front checked rejected
  pub replayed : framework ≡ framework_after f (take front (entries_in history))
  pub counted : (more : ℕ) → AreRejections f (entries_in history) left (drop checked replies) more
      → AreRejections f (entries_in history) lines replies (rejected + more)
