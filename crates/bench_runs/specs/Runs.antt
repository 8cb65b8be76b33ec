-- A run of a large input.
use Rattle.std.specs.Prelude.{◌≡◌, ℕ, length}
use Rattle.semantics.specs.Framework.{Af}
use Rattle.semantics.specs.Frameworks.{af}
use Rattle.edit_history.specs.Entries.{entries_in, framework_after}
use Rattle.script_text.specs.declared.script.Script.{Script}
use Rattle.bench_runs.specs.Transcripts.{IsTranscriptOf}
use Rattle.bench_runs.specs.declared.transcript.ScriptTranscript.{ScriptTranscript}
use Rattle.bench_runs.specs.Generator.{bench_framework}
use Rattle.bench_runs.specs.Scripts.{bench_script}
use Rattle.bench_runs.specs.declared.counts.Counts.{Counts}
use Rattle.bench_runs.specs.declared.run.BenchRun.{BenchRun}
use Rattle.bench_runs.specs.declared.run.TheConstants.{BENCH_BUDGET}
use Rattle.bench_runs.specs.Summaries.{AreRejected, IsGroundedSize, counts_text, queries_told}

-- what is counted of a transcript of the script on an abstract framework
pub record AreCounts (f : Af) (script : Script) (t : ScriptTranscript) (counts : Counts) : Type 0 where
  pub arguments : counts.arguments ≡ length f.live
  pub attacks : counts.attacks ≡ length f.attacks
  pub edits : counts.edits ≡ length t.history.entries.items
  pub queries : counts.queries ≡ queries_told t.replies.items
  pub rejected : AreRejected (af f) (entries_in t.history.entries.items) script.lines 1 t.replies.items counts.rejected
  pub grounded : IsGroundedSize (framework_after (af f) (entries_in t.history.entries.items)) counts.grounded

-- a run of the input of n arguments and a seed: a transcript of its sessions, what was counted of it, and the summary
-- that says so
pub record IsBenchRun (n seed : ℕ) (run : BenchRun) : Type 0 where
  pub transcript : IsTranscriptOf (af (bench_framework n seed)) (bench_script n seed) BENCH_BUDGET run.transcript
  pub counts : AreCounts (bench_framework n seed) (bench_script n seed) run.transcript run.counts
  pub text : run.summary ≡ counts_text run.counts
