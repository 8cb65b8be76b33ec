-- What a script comes to.
use Rattle.std.specs.Prelude.{◌≡◌, ◌⊎◌, ℕ, ◌+◌, ◌<◌, ◌≤◌, List, All, Contains, length, slice_index_or}
use Rattle.semantics.specs.Frameworks.{Framework, IsNumbered}
use Rattle.edit_rules.specs.Kinds.{framework_of}
use Rattle.edit_history.specs.Entries.{AreDone, edit_count, entries_in}
use Rattle.script_text.specs.declared.script.Script.{Script}
use Rattle.script_text.specs.declared.script.ScriptLine.{ScriptLine}
use Rattle.session_core.specs.declared.kept.Kept.{Kept}
use Rattle.session_replies.specs.declared.reply.Reply.{Reply}
use Rattle.bench_runs.specs.Served.{IsServed, lines_of}
use Rattle.bench_runs.specs.Shared.{TakesFromPool}
use Rattle.bench_runs.specs.declared.script_run.TheConstants.{MAX_HISTORY}
use Rattle.bench_runs.specs.declared.transcript.ScriptTranscript.{ScriptTranscript}

-- the sessions that lines name are at most so many, and that one is named, unless there is none
pub record AreSessions (lines : List ScriptLine) (count : ℕ) : Type 0 where
  pub each : (line : ScriptLine) → Contains lines line → line.session ≤ count
  pub named : (count ≡ 0) ⊎ ((line : ScriptLine) × Contains lines line × (line.session ≡ count))

-- one history over the framework, of which each edit was taken on what those before it left; and for each session,
-- from 1 to the greatest that the script names, what it was told of its lines, with its engine's log; and what they
-- took from one another is in the pool that they shared
pub record IsTranscriptOf (f : Framework) (script : Script) (budget : ℕ) (t : ScriptTranscript) : Type 0 where
  pub form : IsNumbered f
  pub opening : framework_of t.history.opening ≡ f
  pub within : edit_count (entries_in t.history.entries.items) ≤ MAX_HISTORY
  pub taken : AreDone f t.history.entries.items
  pub sessions : ℕ
  pub sessions_are : AreSessions script.lines sessions
  pub numbered : All (λ e. (0 < e.session) × (e.session ≤ sessions)) (entries_in t.history.entries.items)
  pub replies : length t.replies.items ≡ sessions
  pub kept : length t.kept.items ≡ sessions
  pub served : (k : ℕ) (none : List Reply) (nothing : Kept) → k < sessions
      → IsServed f MAX_HISTORY budget (k + 1) (lines_of (k + 1) script.lines) (entries_in t.history.entries.items)
      (slice_index_or t.kept.items k nothing).engine.log (slice_index_or t.kept.items k nothing).answers.items
      (slice_index_or t.replies.items k none)
  pub shared : (k : ℕ) (nothing : Kept) → k < sessions
      → TakesFromPool t.pool (slice_index_or t.kept.items k nothing).engine.log
      (slice_index_or t.kept.items k nothing).answers.items
