-- What holds of every transcript of a large input, in whatever order its sessions took their turns.
use Rattle.std.specs.Prelude.{◌≡◌, ℕ, ◌+◌, ◌*◌, ◌<◌, ◌≤◌, List, length, slice_index_or}
use Rattle.std.specs.List.{AllZip}
use Rattle.semantics.specs.Framework.{IsGrounded}
use Rattle.semantics.specs.Frameworks.{af}
use Rattle.edit_history.specs.Entries.{entries_in, framework_after}
use Rattle.session_replies.specs.declared.reply.Reply.{Reply}
use Rattle.bench_runs.specs.Served.{lines_of}
use Rattle.bench_runs.specs.Transcripts.{IsTranscriptOf}
use Rattle.bench_runs.specs.declared.transcript.ScriptTranscript.{ScriptTranscript}
use Rattle.bench_runs.specs.Generator.{bench_framework}
use Rattle.bench_runs.specs.Scripts.{asked_about, bench_script}
use Rattle.bench_runs.specs.declared.input.TheConstants.{MAX_ARGUMENTS}
use Rattle.bench_runs.specs.Taken.{IsTakenOn}

-- each edit of each session is taken, these are all entries of the history, and they leave the framework that there was
pub record IsUndisturbed (n seed : ℕ) (t : ScriptTranscript) : Type 0 where
  pub taken : (k : ℕ) (none : List Reply) → k < length t.replies.items
      → AllZip (λ line reply. IsTakenOn line.command reply.body) (lines_of (k + 1) (bench_script n seed).lines)
      (slice_index_or t.replies.items k none)
  pub entries : length t.history.entries.items ≡ 2 * asked_about n
  pub same : framework_after (af (bench_framework n seed)) (entries_in t.history.entries.items)
      ≡ af (bench_framework n seed)

abbrev pub EditsAreTaken : Type 0
EditsAreTaken = (n seed budget : ℕ) (t : ScriptTranscript) → 1 ≤ n → n ≤ MAX_ARGUMENTS
    → IsTranscriptOf (af (bench_framework n seed)) (bench_script n seed) budget t → IsUndisturbed n seed t

-- each argument has an attacker, so the grounded set is empty
abbrev pub NoneIsGrounded : Type 0
NoneIsGrounded = (n seed : ℕ) (set : List ℕ) → IsGrounded (bench_framework n seed) set → length set ≡ 0
