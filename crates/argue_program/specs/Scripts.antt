-- How the run of a script's sessions may end.
use Rattle.std.specs.Prelude.{ℕ, List}
use Rattle.argue_outside.specs.Outside.{KnownFile}
use Rattle.argue_words.specs.Words.{LiveTexts}
use Rattle.bench_runs.specs.Transcripts.{IsTranscriptOf}
use Rattle.bench_runs.specs.declared.transcript.ScriptTranscript.{ScriptTranscript}
use Rattle.script_text.specs.declared.script.Script.{Script}
use Rattle.semantics.specs.Frameworks.{Framework}
use Rattle.session_replies.specs.Replies.{transcript_of}
use Rattle.argue_commands.specs.Inputs.{IsFrameworkOf, IsScriptOf}

-- the sessions of the script that the one file's bytes read as come to this on the framework that the other's read as:
-- each reply is about the framework after a prefix of the committed groups of edits (`IsTranscriptOf`)
pub record RunsScript (holds : List ℕ → KnownFile) (budget : ℕ) (texts : LiveTexts) (transcript : ScriptTranscript)
    : Type 0 where
  pub framework : Framework
  pub script : Script
  pub of_framework : IsFrameworkOf (holds texts.file) framework
  pub of_script : IsScriptOf (holds texts.script) script
  pub is : IsTranscriptOf framework script budget transcript

-- the text of the replies of all sessions, and of the history
abbrev pub transcript_bytes : ScriptTranscript → List ℕ
transcript_bytes transcript = transcript_of transcript.replies.items transcript.history.entries.items
