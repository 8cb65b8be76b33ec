-- The table of commands: what each reads, how it may end, and what it then writes.
use Rattle.std.specs.Prelude.{◌≡◌, ◌≢◌, Contains, ℕ, ◌⊎◌, Bool, true, false, List, [], ◌∷◌, Option, None, Some, Result}
use Rattle.std.specs.Prelude.{Ok, Err, IsTrue, codes, map}
use Rattle.std.specs.Option.{unwrap_or}
use Rattle.argue_outside.specs.Outside.{KnownFile}
use Rattle.iccma_tasks.specs.WrittenText.{text_of as answer_text}
use Rattle.bench_runs.specs.oracle_core.specs.declared.reply.AnswerStop.{AnswerStop}
use Rattle.bench_runs.specs.oracle_core.specs.declared.reply.Answered.{Answered}
use Rattle.argue_outside.specs.declared.Role.{Role}
use Rattle.argue_outside.specs.declared.Role.TheVariants.{Framework}
use Rattle.argue_words.specs.Words.{AfTexts, CheckTexts, ExportTexts, LiveTexts, LratTexts, NamesTexts, Request}
use Rattle.argue_words.specs.Words.{SolveTexts, version, problems, solving, checking, living, benching, by_name}
use Rattle.argue_words.specs.Words.{numbering, verifying, exporting, unknown}
use Rattle.iccma_tasks.specs.Tasks.{Asked, tasks_line}
use Rattle.argue_commands.specs.Checks.{ChecksFiles, check_inputs}
use Rattle.argue_program.specs.LargeInputs.{large_by}
use Rattle.argue_commands.specs.Queries.{asked_by, budget_of, solving_by}
use Rattle.argue_commands.specs.Opening.{live_inputs}
use Rattle.argue_program.specs.Scripts.{RunsScript, transcript_bytes}
use Rattle.argue_commands.specs.Solves.{IsSessionOn, status_of}
use Rattle.argue_program.specs.declared.large.LargeInput.{LargeInput}
use Rattle.argue_commands.specs.declared.query.Solving.{Solving}
use Rattle.apx_tgf.specs.declared.format.NameFormat.{NameFormat}
use Rattle.argue_commands.specs.Inputs.{Input, Reading, StopsAtFirst, input, named_input}
use Rattle.argue_commands.specs.declared.ended.Refusal.TheVariants.{UnknownName}
use Rattle.lrat_commands.specs.Exporting.{ExportsFiles, IsExported, exported_files, exported_text, exporting_by}
use Rattle.lrat_commands.specs.Verifying.{VerifiesFiles, lrat_inputs}
use Rattle.lrat_commands.specs.declared.exporting.Exporting.{Exporting}
use Rattle.refutation_logs.specs.declared.texts.Exported.{Exported}
use Rattle.named_commands.specs.Namings.{AnswersNamedFile, AsksUnknownOf, format_named, naming_by}
use Rattle.named_commands.specs.Numberings.{IsNumberedOf}
use Rattle.named_commands.specs.declared.naming.Naming.{Naming}
use Rattle.argue_commands.specs.Replacing.{FileText, certificate_files, file_text}
use Rattle.argue_commands.specs.Texts.{common_text, text_bytes}
use Rattle.argue_program.specs.declared.ending.Ending.{Ending}
use Rattle.argue_commands.specs.declared.ended.KeptSession.{KeptSession}
use Rattle.argue_commands.specs.declared.ended.Status.{Status}
use Rattle.argue_commands.specs.declared.ended.Status.TheVariants.{Done, Usage, InputRefused, ReadFault, WantOfMemory}
use Rattle.argue_program.specs.declared.ended.Transcript.{Transcript}
use Rattle.bench_runs.specs.Runs.{IsBenchRun}
use Rattle.bench_runs.specs.Summaries.{summary}
use Rattle.bench_runs.specs.declared.run.BenchRun.{BenchRun}
use Rattle.bench_runs.specs.declared.transcript.ScriptTranscript.{ScriptTranscript}
use Rattle.bench_runs.specs.Transcripts.{IsTranscriptOf}
use Rattle.script_text.specs.declared.script.Script.{Script}
use Rattle.semantics.specs.Frameworks.{Framework as AnyFramework}
use Rattle.session_replies.specs.Replies.{certificates_of}

-- one row of the table of commands
pub record Row : Type 1 where
  pub inputs : List Input  -- in the order of reading
  pub takes_memory : Bool  -- it may end for want of memory
  pub Ends : Transcript → Status → Type 0  -- how it may end, and what it keeps, once its inputs are read and sound
  pub Says : Transcript → Status → List ℕ → Type 0  -- the text that it then writes, where the status has none of its own
  pub Writes : Transcript → Status → List ℕ → List FileText → Type 0  -- the files that it then writes before that text

-- a run that keeps nothing
abbrev pub nothing_kept : Transcript
nothing_kept = record { session = None; script = None }

-- a run that keeps the session of a query
abbrev pub session_kept : KeptSession → Transcript
session_kept session = record { session = Some session; script = None }

-- one that keeps what a script's sessions came to
abbrev pub script_kept : ScriptTranscript → Transcript
script_kept transcript = record { session = None; script = Some transcript }

-- ---- the rows

-- it is done, and keeps nothing
abbrev pub EndsDone : Transcript → Status → Type 0
EndsDone kept end = (kept ≡ nothing_kept) × (end ≡ Done)

-- it asks for nothing that there is, and keeps nothing
abbrev pub EndsUnasked : Transcript → Status → Type 0
EndsUnasked kept end = (kept ≡ nothing_kept) × (end ≡ Usage)

-- it keeps the query's session, and ends as its reply says
pub record EndsSolved (known : KnownFile) (query : Solving) (kept : Transcript) (end : Status) : Type 0 where
  pub session : KeptSession
  pub keeps : kept ≡ session_kept session
  pub on : IsSessionOn known query session
  pub ends : end ≡ status_of session.reply

-- the text of an answer
abbrev pub reply_text : Result Answered AnswerStop → List ℕ
reply_text (Ok reply) = answer_text reply.answer
reply_text (Err why) = []

-- the text of the answer that is kept
abbrev pub session_text : Option KeptSession → List ℕ
session_text None = []
session_text (Some session) = reply_text session.reply

-- the file of the certificate of an answer
abbrev pub reply_files : Option (List ℕ) → Result Answered AnswerStop → List FileText
reply_files name (Ok reply) = certificate_files name reply.certificate
reply_files name (Err why) = []

-- the file of the certificate of the answer that is kept
abbrev pub session_files : Option (List ℕ) → Option KeptSession → List FileText
session_files name None = []
session_files name (Some session) = reply_files name session.reply

abbrev pub version_row : Row
version_row = record {
  inputs = [];
  takes_memory = false;
  Ends = EndsDone;
  Says = λ kept end text. text ≡ codes "argue 1.0\n";
  Writes = λ kept end text files. files ≡ [];
}

abbrev pub unknown_row : Row
unknown_row = record {
  inputs = [];
  takes_memory = true;
  Ends = EndsUnasked;
  Says = λ kept end text. text ≡ [];
  Writes = λ kept end text files. files ≡ [];
}

-- `--problems`: the list of the tasks that there are
abbrev pub problems_row : Row
problems_row = record {
  inputs = [];
  takes_memory = true;
  Ends = EndsDone;
  Says = λ kept end text. text ≡ tasks_line;
  Writes = λ kept end text files. files ≡ [];
}

-- the answer to a query, or words that ask none
abbrev pub solve_row : (List ℕ → KnownFile) → Option Solving → SolveTexts → Row
solve_row holds None texts = unknown_row
solve_row holds (Some query) texts = record {
  inputs = input (Framework 1) texts.file ∷ [];
  takes_memory = true;
  Ends = EndsSolved (holds texts.file) query;
  Says = λ kept end text. text ≡ session_text kept.session;
  Writes = λ kept end text files. files ≡ session_files texts.certificate kept.session;
}

-- it keeps nothing, and ends as the check of the files does
abbrev pub EndsChecked : (List ℕ → KnownFile) → Asked → CheckTexts → Transcript → Status → Type 0
EndsChecked holds asked texts kept end = (kept ≡ nothing_kept) × ChecksFiles holds asked texts end

-- the check of an answer to a query, or words that ask none
abbrev pub check_row : (List ℕ → KnownFile) → Option Asked → CheckTexts → Row
check_row holds None texts = unknown_row
check_row holds (Some asked) texts = record {
  inputs = check_inputs texts;
  takes_memory = true;
  Ends = EndsChecked holds asked texts;
  Says = λ kept end text. text ≡ codes "ACCEPTED\n";
  Writes = λ kept end text files. files ≡ [];
}

-- the sessions of the script have run on the framework in its file, and it keeps what they came to
pub record EndsLive (holds : List ℕ → KnownFile) (budget : ℕ) (texts : LiveTexts) (kept : Transcript) (end : Status)
    : Type 0 where
  pub transcript : ScriptTranscript
  pub keeps : kept ≡ script_kept transcript
  pub runs : RunsScript holds budget texts transcript
  pub ends : end ≡ Done

-- the transcript that is kept, as text
abbrev pub script_text : Option ScriptTranscript → List ℕ
script_text None = []
script_text (Some transcript) = transcript_bytes transcript

-- the file of the certificates of all answers of a script, where one is named
abbrev pub certificates_files : Option (List ℕ) → ScriptTranscript → List FileText
certificates_files None transcript = []
certificates_files (Some name) transcript =
    record { name = name; bytes = certificates_of transcript.replies.items } ∷ []

-- the same of the transcript that is kept
abbrev pub script_files : Option (List ℕ) → Option ScriptTranscript → List FileText
script_files name None = []
script_files name (Some transcript) = certificates_files name transcript

-- the run of a script's sessions, or words whose budget is none
abbrev pub live_row : (List ℕ → KnownFile) → Option ℕ → LiveTexts → Row
live_row holds None texts = unknown_row
live_row holds (Some budget) texts = record {
  inputs = live_inputs texts;
  takes_memory = true;
  Ends = EndsLive holds budget texts;
  Says = λ kept end text. text ≡ script_text kept.script;
  Writes = λ kept end text files. files ≡ script_files texts.certificate kept.script;
}

-- the sessions of the large input have run, and it keeps what they came to
pub record EndsLarge (large : LargeInput) (kept : Transcript) (end : Status) : Type 0 where
  pub run : BenchRun
  pub keeps : kept ≡ script_kept run.transcript
  pub is : IsBenchRun large.arguments large.seed run
  pub ends : end ≡ Done

-- the run of a large input, or words that ask for none
abbrev pub bench_row : Option LargeInput → Row
bench_row None = unknown_row
bench_row (Some large) = record {
  inputs = [];
  takes_memory = true;
  Ends = EndsLarge large;
  Says = λ kept end text. text ≡ summary large.arguments large.seed;
  Writes = λ kept end text files. files ≡ [];
}

-- it keeps the session of the query by names, and ends as its reply says
pub record EndsNamed (known : KnownFile) (naming : Naming) (name : Option (List ℕ)) (kept : Transcript) (end : Status)
    : Type 0 where
  pub session : KeptSession
  pub text : List ℕ
  pub keeps : kept ≡ session_kept session
  pub answers : AnswersNamedFile known naming name session text
  pub ends : end ≡ status_of session.reply

-- it keeps nothing, and the name that is asked about is none
pub record EndsUnnamed (known : KnownFile) (naming : Naming) (name : Option (List ℕ)) (kept : Transcript) (end : Status)
    : Type 0 where
  pub keeps : kept ≡ nothing_kept
  pub asks : AsksUnknownOf known naming name
  pub ends : end ≡ InputRefused UnknownName

-- the text is that of the answer of the session that is kept, by names
pub record SaysNamed (known : KnownFile) (naming : Naming) (name : Option (List ℕ)) (kept : Transcript) (text : List ℕ)
    : Type 0 where
  pub session : KeptSession
  pub keeps : kept.session ≡ Some session
  pub answers : AnswersNamedFile known naming name session text

-- the answer to a query by names, or words that ask none
abbrev pub names_row : (List ℕ → KnownFile) → Option Naming → NamesTexts → Row
names_row holds None texts = unknown_row
names_row holds (Some naming) texts = record {
  inputs = named_input naming.format texts.file ∷ [];
  takes_memory = true;
  Ends = λ kept end. EndsNamed (holds texts.file) naming texts.name kept end
      ⊎ EndsUnnamed (holds texts.file) naming texts.name kept end;
  Says = λ kept end text. SaysNamed (holds texts.file) naming texts.name kept text;
  Writes = λ kept end text files. files ≡ session_files texts.certificate kept.session;
}

-- it is done, and keeps nothing: the framework in the file has a text with numbers
pub record EndsNumbered (known : KnownFile) (format : NameFormat) (kept : Transcript) (end : Status) : Type 0 where
  pub text : List ℕ
  pub keeps : kept ≡ nothing_kept
  pub is : IsNumberedOf known format text
  pub ends : end ≡ Done

-- the text with numbers, or words whose format is none
abbrev pub af_row : (List ℕ → KnownFile) → Option NameFormat → AfTexts → Row
af_row holds None texts = unknown_row
af_row holds (Some format) texts = record {
  inputs = named_input format texts.file ∷ [];
  takes_memory = true;
  Ends = EndsNumbered (holds texts.file) format;
  Says = λ kept end text. IsNumberedOf (holds texts.file) format text;
  Writes = λ kept end text files. files ≡ [];
}

-- it keeps nothing, and ends as the check of the CNF with the refutation does
abbrev pub EndsVerified : (List ℕ → KnownFile) → LratTexts → Transcript → Status → Type 0
EndsVerified holds texts kept end = (kept ≡ nothing_kept) × VerifiesFiles holds texts end

-- the check of a CNF with its refutation
abbrev pub lrat_row : (List ℕ → KnownFile) → LratTexts → Row
lrat_row holds texts = record {
  inputs = lrat_inputs texts;
  takes_memory = true;
  Ends = EndsVerified holds texts;
  Says = λ kept end text. text ≡ codes "VERIFIED\n";
  Writes = λ kept end text files. files ≡ [];
}

-- it keeps nothing, and ends as the export of what the files read as does
abbrev pub EndsExported : (List ℕ → KnownFile) → Exporting → ExportTexts → Transcript → Status → Type 0
EndsExported holds wanted texts kept end = (kept ≡ nothing_kept) × ExportsFiles holds wanted texts.check end

-- the line and the files are those of the texts of the refutation
pub record WritesExport (holds : List ℕ → KnownFile) (wanted : Exporting) (texts : ExportTexts) (text : List ℕ)
    (files : List FileText) : Type 0 where
  pub exported : Exported
  pub is : IsExported holds wanted texts.check exported
  pub text_is : text ≡ exported_text exported
  pub files_are : files ≡ exported_files texts.output exported

-- the texts of a refutation of a certificate, or words that ask for none
abbrev pub export_row : (List ℕ → KnownFile) → Option Exporting → ExportTexts → Row
export_row holds None texts = unknown_row
export_row holds (Some wanted) texts = record {
  inputs = check_inputs texts.check;
  takes_memory = true;
  Ends = EndsExported holds wanted texts;
  Says = λ kept end text. (files : List FileText) × WritesExport holds wanted texts text files;
  Writes = λ kept end text files. WritesExport holds wanted texts text files;
}

-- the table: what is known of the files matters to some rows
abbrev pub row_of : (List ℕ → KnownFile) → Request → Row
row_of holds version = version_row
row_of holds problems = problems_row
row_of holds (solving texts) = solve_row holds (solving_by texts) texts
row_of holds (checking texts) = check_row holds (asked_by texts.task texts.number) texts
row_of holds (living texts) = live_row holds (budget_of texts.budget) texts
row_of holds (benching texts) = bench_row (large_by texts)
row_of holds (by_name texts) = names_row holds (naming_by texts) texts
row_of holds (numbering texts) = af_row holds (format_named texts.kind) texts
row_of holds (verifying texts) = lrat_row holds texts
row_of holds (exporting texts) = export_row holds (exporting_by texts) texts
row_of holds unknown = unknown_row

-- ---- the cause of an ending

-- why a run of this row may end so, and what it then keeps: by its inputs, for want of memory, or as the row says
abbrev pub EndsCommand : Reading → Row → Transcript → Status → Type 0
EndsCommand found row kept end =
    ((kept ≡ nothing_kept) × (StopsAtFirst found end row.inputs ⊎ ((end ≡ WantOfMemory) × IsTrue row.takes_memory)))
    ⊎ row.Ends kept end

-- the text that an ending has to write: its status's where that says the same in every command, or else its row's
abbrev pub IsTextOf : Option (List ℕ) → (List ℕ → Type 0) → List ℕ → Type 0
IsTextOf None Says text = Says text
IsTextOf (Some said) Says text = text ≡ said

abbrev pub WritesText : Row → Transcript → Status → List ℕ → Type 0
WritesText row kept end text = IsTextOf (common_text end) (row.Says kept end) text

-- the files that an ending has to write: none where its status says the same in every command
abbrev pub files_beside : Option (List ℕ) → List FileText → List FileText
files_beside None files = files
files_beside (Some text) files = []

-- the same of a row whose files are said by what holds of them
abbrev pub AreFiles : Option (List ℕ) → (List FileText → Type 0) → List FileText → Type 0
AreFiles None Writes files = Writes files
AreFiles (Some text) Writes files = files ≡ []

-- a role in which the row reads no input
abbrev pub HasNoInput : Row → Role → Type 0
HasNoInput row role = (input : Input) → Contains row.inputs input → role ≢ input.role

-- no fault of reading is counted but where the run ends by one, and none ever in a role without input
pub record CountsReads (found : Reading) (row : Row) (end : Status) : Type 0 where
  pub quiet : ((role : Role) → end ≢ ReadFault role) → found.new_count ≡ found.old_count
  pub others : (role : Role) → HasNoInput row role → found.new_count role ≡ found.old_count role

-- the ending is one that the row has
pub record IsEndingOf (found : Reading) (row : Row) (ending : Ending) : Type 0 where
  pub cause : EndsCommand found row ending.kept ending.status
  pub text : WritesText row ending.kept ending.status (text_bytes ending.text)
  pub files : AreFiles (common_text ending.status) (row.Writes ending.kept ending.status (text_bytes ending.text))
      (map file_text ending.files)
  pub counts : CountsReads found row ending.status

-- the ending is one that the row of the request has
abbrev pub IsEndingFor : Reading → Request → Ending → Type 0
IsEndingFor found request ending = IsEndingOf found (row_of found.holds request) ending

-- the ending of a session: it keeps the session, ends as its reply says, and writes the text of its answer and the file
-- of its certificate, or the line of its status
pub record EndsSession (session : KeptSession) (said : List ℕ) (name : Option (List ℕ)) (ending : Ending)
    : Type 0 where
  pub status : ending.status ≡ status_of session.reply
  pub keeps : ending.kept ≡ session_kept session
  pub text : text_bytes ending.text ≡ unwrap_or (common_text ending.status) said
  pub files : map file_text ending.files ≡ files_beside (common_text ending.status) (reply_files name session.reply)

-- the ending of a script's run: it keeps what the sessions came to, is done, and writes the transcript and the file of
-- the certificates
pub record EndsScript (transcript : ScriptTranscript) (name : Option (List ℕ)) (ending : Ending) : Type 0 where
  pub status : ending.status ≡ Done
  pub keeps : ending.kept ≡ script_kept transcript
  pub text : text_bytes ending.text ≡ transcript_bytes transcript
  pub files : map file_text ending.files ≡ certificates_files name transcript

-- the same of some transcript of the script on the framework
pub record EndsServed (f : AnyFramework) (script : Script) (budget : ℕ) (name : Option (List ℕ)) (ending : Ending)
    : Type 0 where
  pub transcript : ScriptTranscript
  pub is : IsTranscriptOf f script budget transcript
  pub ends : EndsScript transcript name ending

-- the ending of a large input's run: it keeps what the sessions came to, is done, and writes the summary alone
pub record EndsSummed (run : BenchRun) (ending : Ending) : Type 0 where
  pub status : ending.status ≡ Done
  pub keeps : ending.kept ≡ script_kept run.transcript
  pub text : text_bytes ending.text ≡ run.summary
  pub files : ending.files ≡ []

-- the ending of an export that is done: it keeps nothing, and writes the line and the files of the texts
pub record EndsExport (exported : Exported) (output : List ℕ) (ending : Ending) : Type 0 where
  pub status : ending.status ≡ Done
  pub keeps : ending.kept ≡ nothing_kept
  pub text : text_bytes ending.text ≡ exported_text exported
  pub files : map file_text ending.files ≡ exported_files output exported
