-- What a run does, and what follows of it in the words of its query.
use Rattle.std.specs.Prelude.{◌≡◌, ◌≢◌, ℕ, ◌⊎◌, ◌<◌, ◌≤◌, true, List, length, map, take, slice_index_or, Ok, Some}
use Rattle.std.specs.Prelude.{Option}
use Rattle.std.specs.Io.KnownBytes.{Appends}
use Rattle.argue_outside.specs.Outside.{FaultCounted, KnownFile}
use Rattle.argue_outside.specs.declared.Role.{Role}
use Rattle.argue_outside.specs.declared.Role.TheVariants as role
use Rattle.semantics.specs.Framework.{Af}
use Rattle.semantics.specs.Frameworks.{Framework, af}
use Rattle.num_text.specs.declared.limit.TheConstants.{MAX_INPUT}
use Rattle.argue_words.specs.Words.{AfTexts, BenchTexts, CheckTexts, IsAfQuery, IsBenchQuery, IsCheckQuery, IsLiveQuery}
use Rattle.argue_words.specs.Words.{ExportTexts, IsExportQuery, IsLratQuery, IsNamesQuery, IsSolveQuery, LiveTexts}
use Rattle.argue_words.specs.Words.{LratTexts, NamesTexts, SolveTexts, requested}
use Rattle.apx_tgf.specs.Faults.{IsFirstFault as IsFirstNameFault}
use Rattle.apx_tgf.specs.Names.{AreDistinct}
use Rattle.apx_tgf.specs.NamedText.{ReadsAs as NamedReadsAs}
use Rattle.apx_tgf.specs.declared.fault.NameCause.{NameCause}
use Rattle.apx_tgf.specs.declared.format.NameFormat.{NameFormat}
use Rattle.lrat_text.specs.CnfText.{Formula, IsCnfFault, IsCnfText}
use Rattle.lrat_text.specs.declared.fault.CnfCause.{CnfCause}
use Rattle.lrat_commands.specs.Exporting.{ExportEnds, IsExported, cnf_name, exported_files, exported_text, exporting_by}
use Rattle.lrat_commands.specs.Exporting.{lrat_name}
use Rattle.lrat_commands.specs.Verifying.{LratEnds}
use Rattle.lrat_commands.specs.declared.exporting.Exporting.{Exporting}
use Rattle.refutation_logs.specs.declared.texts.Exported.{Exported}
use Rattle.named_commands.specs.NamedTexts.{named_answer}
use Rattle.named_commands.specs.Namings.{IsAskedBy, IsNamedOf, IsUnknown, format_named, naming_by, solving_of}
use Rattle.named_commands.specs.Numberings.{IsNumberedOf}
use Rattle.named_commands.specs.declared.naming.Naming.{Naming}
use Rattle.iccma_tasks.specs.AnswerText.{filled_fields, ReadsAs as AnswerReadsAs}
use Rattle.iccma_tasks.specs.WrittenText.{text_of as answer_text}
use Rattle.iccma_tasks.specs.Tasks.{Asked}
use Rattle.iccma_tasks.specs.declared.answer.Answer.{Answer}
use Rattle.certificate_claims.specs.Agreement.{AgreesWithRight}
use Rattle.certificate_claims.specs.Rights.{IsRight}
use Rattle.certificate_claims.specs.declared.certificate.Certificate.{Certificate}
use Rattle.certificate_text.specs.Reading.{ReadsAs as CertReadsAs}
use Rattle.framework_text.specs.FrameworkText.{ReadsAs}
use Rattle.argue_commands.specs.Checks.{CheckEnds, IsAnswerOf}
use Rattle.argue_program.specs.LargeInputs.{large_by}
use Rattle.argue_commands.specs.Queries.{asked_by, budget_of, solving_by}
use Rattle.argue_program.specs.Scripts.{RunsScript, transcript_bytes}
use Rattle.argue_commands.specs.Solves.{IsReplyTo, IsSessionOf, status_of}
use Rattle.argue_program.specs.declared.large.LargeInput.{LargeInput}
use Rattle.argue_commands.specs.declared.query.Solving.{Solving}
use Rattle.bench_runs.specs.Generator.{bench_framework}
use Rattle.bench_runs.specs.Scripts.{bench_script}
use Rattle.bench_runs.specs.Runs.{IsBenchRun}
use Rattle.bench_runs.specs.Summaries.{summary}
use Rattle.bench_runs.specs.declared.run.BenchRun.{BenchRun}
use Rattle.bench_runs.specs.declared.run.TheConstants.{BENCH_BUDGET}
use Rattle.bench_runs.specs.Transcripts.{IsTranscriptOf}
use Rattle.bench_runs.specs.declared.transcript.ScriptTranscript.{ScriptTranscript}
use Rattle.script_text.specs.ScriptFaults.{Stands}
use Rattle.script_text.specs.ScriptText.{IsScript}
use Rattle.script_text.specs.declared.fault.ScriptCause.{ScriptCause}
use Rattle.script_text.specs.declared.script.Script.{Script}
use Rattle.oracle_face.specs.declared.face.Pending.{Pending}
use Rattle.oracle_face.specs.Growing.{IsFurther}
use Rattle.oracle_face.specs.Logs.{IsNew, is_unit, no_step, units_of, working}
use Rattle.session_log.specs.Ends.{LoopInHand, MadeFor}
use Rattle.bench_runs.specs.oracle_core.specs.declared.reply.Answered.{Answered}
use Rattle.argue_commands.specs.Inputs.{Input, IsFirstFaultAs, IsFirstFaultIn, IsFrameworkOf, Reading, input}
use Rattle.argue_commands.specs.Inputs.{named_input}
use Rattle.argue_commands.specs.Replacing.{RefusesFile, WritesFiles, certificate_files, file_text}
use Rattle.argue_program.specs.Rows.{IsEndingFor, certificates_files}
use Rattle.argue_program.specs.Seen.{Seen}
use Rattle.argue_program.specs.Writing.{BreaksOff, IsWritten}
use Rattle.argue_program.specs.declared.ending.Ending.{Ending}
use Rattle.argue_program.specs.declared.ended.Ended.{Ended}
use Rattle.argue_commands.specs.declared.ended.KeptSession.{KeptSession}
use Rattle.argue_commands.specs.declared.ended.Limit.TheVariants as limit
use Rattle.argue_commands.specs.declared.ended.Refusal.TheVariants.{Line, NoRefutation}
use Rattle.argue_commands.specs.declared.ended.Status.{Status}
use Rattle.argue_commands.specs.declared.ended.Status.TheVariants.{Done, Usage, InputRefused, WriteFault, WantOfMemory}
use Rattle.argue_commands.specs.declared.ended.Status.TheVariants.{Limit}
use Rattle.argue_program.specs.declared.ended.Transcript.{Transcript}
use Rattle.argue_commands.specs.declared.query.TheConstants.{LOG_LIMIT}

-- the run of these words comes to an ending that the row of what they ask for has, and writes it whole, or ends with a
-- write fault in the midst of it: then the output failed, or a file's name wasn't accepted
pub record IsRunOf (words : List (List ℕ)) (seen : Seen) (ended : Ended) : Type 0 where
  pub ending : Ending
  pub decided : IsEndingFor seen.files (requested words) ending
  pub kept : ended.kept ≡ ending.kept
  pub whole : ended.status ≢ WriteFault → (ended.status ≡ ending.status) × IsWritten ending seen.before seen.after
  pub broken : ended.status ≡ WriteFault → BreaksOff ending seen.before seen.after
  pub refused : ended.status ≡ WriteFault → FaultCounted seen.before.fault_count seen.after.fault_count
      ⊎ RefusesFile seen.Accepts (map file_text ending.files)

-- ---- what follows

-- the words ask this query of numbers, on this framework in its file
pub record AsksByNumber (words : List (List ℕ)) (holds : List ℕ → KnownFile) (query : Solving) (f : Framework) : Type 0
  where
    pub texts : SolveTexts
    pub asks : IsSolveQuery words texts
    pub query_is : solving_by texts ≡ Some query
    pub of_framework : IsFrameworkOf (holds texts.file) f

-- the words ask a query by names, on the framework in its file, and this is the query of numbers
pub record AsksByName (words : List (List ℕ)) (holds : List ℕ → KnownFile) (query : Solving) (f : Framework) : Type 0
  where
    pub texts : NamesTexts
    pub asks : IsNamesQuery words texts
    pub naming : Naming
    pub naming_is : naming_by texts ≡ Some naming
    pub names : List (List ℕ)
    pub plain : Af
    pub of_framework : IsNamedOf (holds texts.file) naming.format names plain
    pub framework_is : f ≡ af plain
    pub asked : Asked
    pub asks_by : IsAskedBy names naming.task texts.name asked
    pub query_is : query ≡ solving_of naming asked

-- the words ask a query, by numbers or by names, and this is its session on the framework in its file: an answer in it is
-- right and has an accepted certificate
pub record AsksSession (words : List (List ℕ)) (holds : List ℕ → KnownFile) (session : KeptSession) : Type 0 where
  pub query : Solving
  pub framework : Framework
  pub asks : AsksByNumber words holds query framework ⊎ AsksByName words holds query framework
  pub is : IsSessionOf framework query session

-- the run keeps the session of the words' query, and its log shows that the budget was spent: it has as many units as
-- the budget, each of them a clause that was new when it came, and a further clause that would be one is in hand; no
-- hints take it where it is a loop clause
pub record SpendsBudget (words : List (List ℕ)) (holds : List ℕ → KnownFile) (kept : Transcript) : Type 0 where
  pub session : KeptSession
  pub keeps : kept.session ≡ Some session
  pub asks : AsksSession words holds session
  pub units : units_of session.engine.log ≡ asks.query.budget
  pub fresh : (k : ℕ) → k < length session.engine.log.steps
      → is_unit (slice_index_or session.engine.log.steps k no_step) ≡ true
      → IsNew (working (take k session.engine.log.steps)) (slice_index_or session.engine.log.steps k no_step).clause
  pub in_hand : Pending
  pub pending : session.engine.pending ≡ Some in_hand
  pub further : IsFurther (MadeFor asks.framework asks.query.query) asks.framework session.engine.log in_hand
  pub in_hand_serves : LoopInHand session.engine.log session.engine.pending

-- the run keeps the session of the words' query, and its log is full
pub record FillsLog (words : List (List ℕ)) (holds : List ℕ → KnownFile) (kept : Transcript) : Type 0 where
  pub session : KeptSession
  pub keeps : kept.session ≡ Some session
  pub asks : AsksSession words holds session
  pub full : length session.engine.log.steps ≡ LOG_LIMIT

-- the output has gained the text of a right answer to the words' query on the framework in its file, and the file that
-- is named for the certificate has that of one that is accepted for the answer
pub record WritesAnswer (seen : Seen) (texts : SolveTexts) : Type 0 where
  pub query : Solving
  pub query_is : solving_by texts ≡ Some query
  pub framework : Framework
  pub of_framework : IsFrameworkOf (seen.files.holds texts.file) framework
  pub reply : Answered
  pub replies : IsReplyTo framework query reply
  pub text : Appends seen.before.contents seen.after.contents (answer_text reply.answer)
  pub files :
      WritesFiles (certificate_files texts.certificate reply.certificate) seen.before.holds seen.after.holds

-- the words ask this query of a file with these bytes, of which no read fails: it is served, or no fault is counted
pub record QueriesBytes (found : Reading) (words : List (List ℕ)) (texts : SolveTexts) (query : Solving)
    (bytes : List ℕ) : Type 0 where
  pub asks : IsSolveQuery words texts
  pub query_is : solving_by texts ≡ Some query
  pub known : found.holds texts.file ≡ Some (Some bytes)
  pub no_fault : found.Serves texts.file
      ⊎ ¬ FaultCounted (found.old_count (role.Framework 1)) (found.new_count (role.Framework 1))

-- the name is that of the file for the certificate of the words' query
pub record NamesAnswerFile (words : List (List ℕ)) (name : List ℕ) : Type 0 where
  pub texts : SolveTexts
  pub asks : IsSolveQuery words texts
  pub named : texts.certificate ≡ Some name

-- the name is that of the file for the certificates of the words' script
pub record NamesScriptFile (words : List (List ℕ)) (name : List ℕ) : Type 0 where
  pub texts : LiveTexts
  pub asks : IsLiveQuery words texts
  pub named : texts.certificate ≡ Some name

-- the name is that of the file for the certificate of the words' query by names
pub record NamesNamedFile (words : List (List ℕ)) (name : List ℕ) : Type 0 where
  pub texts : NamesTexts
  pub asks : IsNamesQuery words texts
  pub named : texts.certificate ≡ Some name

-- the name is that of a file of the words' export: it has the name that they state, and an ending
pub record NamesExportFile (words : List (List ℕ)) (name : List ℕ) : Type 0 where
  pub texts : ExportTexts
  pub asks : IsExportQuery words texts
  pub named : (name ≡ cnf_name texts.output) ⊎ (name ≡ lrat_name texts.output)

-- the words name this file, for certificates or for the texts of a refutation of one
abbrev pub NamesCertificate : List (List ℕ) → List ℕ → Type 0
NamesCertificate words name =
    NamesAnswerFile words name ⊎ (NamesScriptFile words name ⊎ (NamesNamedFile words name ⊎ NamesExportFile words name))

-- the run keeps the query's session on the framework, and ends as its reply says
pub record EndsAsReplied (f : Framework) (query : Solving) (kept : Transcript) (end : Status) : Type 0 where
  pub session : KeptSession
  pub keeps : kept.session ≡ Some session
  pub is : IsSessionOf f query session
  pub ends : end ≡ status_of session.reply

-- a query ends as its session says, but for want of memory or a write fault: answered where it fits and its budget and
-- the limits allow it
abbrev pub IsSolveEnd : Framework → Solving → Transcript → Status → Type 0
IsSolveEnd f query kept WantOfMemory = Unit {0}
IsSolveEnd f query kept WriteFault = Unit {0}
IsSolveEnd f query kept end = EndsAsReplied f query kept end

-- the run is done, or wanted memory
abbrev pub IsDoneOrMemory : Status → Type 0
IsDoneOrMemory Done = Unit {0}
IsDoneOrMemory WantOfMemory = Unit {0}
IsDoneOrMemory _ = ⊥

-- words that aren't well-formed are refused, but for want of memory or a write fault
abbrev pub RefusesWords : Status → Type 0
RefusesWords Usage = Unit {0}
RefusesWords WriteFault = Unit {0}
RefusesWords WantOfMemory = Unit {0}
RefusesWords _ = ⊥

-- faulty bytes in a role are refused by their first fault, but for want of memory or a write fault
abbrev pub RefusesBytes : Role → List ℕ → Status → Type 0
RefusesBytes role bytes (InputRefused (Line of line cause)) = (of ≡ role) × IsFirstFaultIn role bytes line cause
RefusesBytes role bytes WriteFault = Unit {0}
RefusesBytes role bytes WantOfMemory = Unit {0}
RefusesBytes role bytes _ = ⊥

-- bytes over the limit are refused for their length, but for want of memory or a write fault
abbrev pub RefusesLength : Status → Type 0
RefusesLength (Limit limit.Input) = Unit {0}
RefusesLength WriteFault = Unit {0}
RefusesLength WantOfMemory = Unit {0}
RefusesLength _ = ⊥

-- ---- checks

-- the answer in its file is right for the query of these texts, on the framework in its file, and whatever other answer
-- is right agrees with it
pub record AnswersRight (holds : List ℕ → KnownFile) (texts : CheckTexts) : Type 0 where
  pub asked : Asked
  pub asks : asked_by texts.task texts.number ≡ Some asked
  pub framework : Framework
  pub answer : Answer
  pub of_framework : IsFrameworkOf (holds texts.file) framework
  pub of_answer : IsAnswerOf (holds texts.answer) answer
  pub right : IsRight framework asked answer
  pub agrees : AgreesWithRight framework asked answer

-- the input has bytes within the limit, of which P holds and no read fails: it is served, or no fault is counted
pub record HasText (found : Reading) (one : Input) (P : List ℕ → Type 0) : Type 0 where
  pub bytes : List ℕ
  pub known : found.holds one.file ≡ Some (Some bytes)
  pub within : length bytes ≤ MAX_INPUT
  pub reads : P bytes
  pub no_fault : found.Serves one.file ⊎ ¬ FaultCounted (found.old_count one.role) (found.new_count one.role)

-- the words ask for a check of this query, and the files read as these
pub record ChecksContents (found : Reading) (words : List (List ℕ)) (texts : CheckTexts) (asked : Asked) (f : Framework)
    (answer : Answer) (certificate : Certificate) : Type 0 where
  pub query : IsCheckQuery words texts
  pub asks : asked_by texts.task texts.number ≡ Some asked
  pub of_framework : HasText found (input (role.Framework 1) texts.file) (λ bytes. ReadsAs bytes f)
  pub of_answer : HasText found (input role.Answer texts.answer) (λ bytes. AnswerReadsAs (filled_fields bytes) answer)
  pub of_certificate : HasText found (input role.Certificate texts.certificate)
      (λ bytes. CertReadsAs bytes (Ok certificate))

-- a check ends as its framework, query, answer and certificate say, but for want of memory or a write fault
abbrev pub IsCheckEnd : Framework → Asked → Answer → Certificate → Status → Type 0
IsCheckEnd f asked answer certificate WantOfMemory = Unit {0}
IsCheckEnd f asked answer certificate WriteFault = Unit {0}
IsCheckEnd f asked answer certificate end = CheckEnds f asked answer certificate end

-- ---- queries

-- the words ask this query, and the file reads as this framework
pub record SolvesContents (found : Reading) (words : List (List ℕ)) (texts : SolveTexts) (query : Solving)
    (f : Framework)
    : Type 0 where
  pub asks : IsSolveQuery words texts
  pub query_is : solving_by texts ≡ Some query
  pub of_framework : HasText found (input (role.Framework 1) texts.file) (λ bytes. ReadsAs bytes f)

-- ---- scripts

-- the words ask for a script's run, and this is what its sessions come to on the framework in its file
pub record AsksScript (words : List (List ℕ)) (holds : List ℕ → KnownFile) (transcript : ScriptTranscript) : Type 0
  where
    pub texts : LiveTexts
    pub asks : IsLiveQuery words texts
    pub budget : ℕ
    pub budget_is : budget_of texts.budget ≡ Some budget
    pub runs : RunsScript holds budget texts transcript

-- the run keeps what the sessions of the script in its file come to on the framework in its file; the output has gained
-- the text of it, and the file that is named for the certificates has those of all answers
pub record WritesTranscript (seen : Seen) (texts : LiveTexts) (kept : Transcript) : Type 0 where
  pub budget : ℕ
  pub budget_is : budget_of texts.budget ≡ Some budget
  pub transcript : ScriptTranscript
  pub keeps : kept.script ≡ Some transcript
  pub runs : RunsScript seen.files.holds budget texts transcript
  pub text : Appends seen.before.contents seen.after.contents (transcript_bytes transcript)
  pub files : WritesFiles (certificates_files texts.certificate transcript) seen.before.holds seen.after.holds

-- the words ask for a script's run with this budget, and the files read as this framework and this script
pub record LivesContents (found : Reading) (words : List (List ℕ)) (texts : LiveTexts) (budget : ℕ) (f : Framework)
    (script : Script) : Type 0 where
  pub asks : IsLiveQuery words texts
  pub budget_is : budget_of texts.budget ≡ Some budget
  pub of_framework : HasText found (input (role.Framework 1) texts.file) (λ bytes. ReadsAs bytes f)
  pub of_script : HasText found (input role.Script texts.script) (λ bytes. IsScript 1 bytes script)

-- the run keeps what the sessions of the script come to on the framework
pub record KeepsTranscript (f : Framework) (script : Script) (budget : ℕ) (kept : Transcript) : Type 0 where
  pub transcript : ScriptTranscript
  pub keeps : kept.script ≡ Some transcript
  pub is : IsTranscriptOf f script budget transcript

-- a script's run is done, and keeps what its sessions come to, but for want of memory or a write fault
abbrev pub IsLiveEnd : Framework → Script → ℕ → Transcript → Status → Type 0
IsLiveEnd f script budget kept Done = KeepsTranscript f script budget kept
IsLiveEnd f script budget kept WantOfMemory = Unit {0}
IsLiveEnd f script budget kept WriteFault = Unit {0}
IsLiveEnd f script budget kept _ = ⊥

-- some cause stands at a line of a script's bytes
abbrev pub IsFaultyScript : List ℕ → Type 0
IsFaultyScript bytes = (line : ℕ) × (cause : ScriptCause) × Stands 1 bytes line cause

-- the words ask for a run of the script with these bytes on a framework that its file reads as, and no read of either
-- fails: it is served, or no fault is counted
pub record ScriptsBytes (found : Reading) (words : List (List ℕ)) (texts : LiveTexts) (budget : ℕ) (f : Framework)
    (bytes : List ℕ) : Type 0 where
  pub asks : IsLiveQuery words texts
  pub budget_is : budget_of texts.budget ≡ Some budget
  pub of_framework : HasText found (input (role.Framework 1) texts.file) (λ bytes. ReadsAs bytes f)
  pub known : found.holds texts.script ≡ Some (Some bytes)
  pub no_fault : found.Serves texts.script ⊎ ¬ FaultCounted (found.old_count role.Script) (found.new_count role.Script)

-- ---- large inputs

-- the words ask for a large input's run, and this is what its sessions come to
pub record AsksLarge (words : List (List ℕ)) (transcript : ScriptTranscript) : Type 0 where
  pub texts : BenchTexts
  pub asks : IsBenchQuery words texts
  pub large : LargeInput
  pub large_is : large_by texts ≡ Some large
  pub is : IsTranscriptOf (af (bench_framework large.arguments large.seed))
      (bench_script large.arguments large.seed) BENCH_BUDGET transcript

-- the words ask for a script's run or for that of a large input, and this is what its sessions come to
abbrev pub AsksTranscript : List (List ℕ) → (List ℕ → KnownFile) → ScriptTranscript → Type 0
AsksTranscript words holds transcript = AsksScript words holds transcript ⊎ AsksLarge words transcript

-- the run keeps what the sessions of the large input come to; the output has gained the summary, and no file changes
pub record WritesSummary (seen : Seen) (texts : BenchTexts) (kept : Transcript) : Type 0 where
  pub large : LargeInput
  pub large_is : large_by texts ≡ Some large
  pub run : BenchRun
  pub keeps : kept.script ≡ Some run.transcript
  pub is : IsBenchRun large.arguments large.seed run
  pub text : Appends seen.before.contents seen.after.contents (summary large.arguments large.seed)
  pub no_file : seen.after.holds ≡ seen.before.holds

-- ---- queries by names

-- the output has gained the text, by names, of a right answer to the words' query on the framework in its file, and the
-- file that is named for the certificate has that of one that is accepted for the answer; each name has one number
pub record WritesNamed (seen : Seen) (texts : NamesTexts) : Type 0 where
  pub naming : Naming
  pub naming_is : naming_by texts ≡ Some naming
  pub names : List (List ℕ)
  pub framework : Af
  pub of_framework : IsNamedOf (seen.files.holds texts.file) naming.format names framework
  pub one_to_one : AreDistinct names
  pub asked : Asked
  pub asks : IsAskedBy names naming.task texts.name asked
  pub reply : Answered
  pub replies : IsReplyTo (af framework) (solving_of naming asked) reply
  pub text : Appends seen.before.contents seen.after.contents (named_answer names reply.answer)
  pub files :
      WritesFiles (certificate_files texts.certificate reply.certificate) seen.before.holds seen.after.holds

-- the words ask this query by names, and the file reads as this framework with these names
pub record NamesContents (found : Reading) (words : List (List ℕ)) (texts : NamesTexts) (naming : Naming)
    (names : List (List ℕ)) (f : Af) : Type 0 where
  pub asks : IsNamesQuery words texts
  pub naming_is : naming_by texts ≡ Some naming
  pub of_framework : HasText found (named_input naming.format texts.file)
      (λ bytes. NamedReadsAs naming.format bytes names f)

-- the run keeps the session of the query of numbers, and ends as its reply says
pub record EndsByName (names : List (List ℕ)) (f : Af) (naming : Naming) (name : Option (List ℕ)) (kept : Transcript)
    (end : Status) : Type 0 where
  pub session : KeptSession
  pub keeps : kept.session ≡ Some session
  pub asked : Asked
  pub asks : IsAskedBy names naming.task name asked
  pub is : IsSessionOf (af f) (solving_of naming asked) session
  pub ends : end ≡ status_of session.reply

-- a query by names ends as its session says, or is refused where its name is none of the names, but for want of memory or
-- a write fault
abbrev pub IsNamesEnd : List (List ℕ) → Af → Naming → Option (List ℕ) → Transcript → Status → Type 0
IsNamesEnd names f naming name kept WantOfMemory = Unit {0}
IsNamesEnd names f naming name kept WriteFault = Unit {0}
IsNamesEnd names f naming name kept end =
    EndsByName names f naming name kept end ⊎ IsUnknown names name end

-- ---- texts with numbers

-- the output has gained a text with numbers of the framework in the file, which reads as that framework, and no file
-- changes
pub record WritesNumbered (seen : Seen) (texts : AfTexts) : Type 0 where
  pub format : NameFormat
  pub format_is : format_named texts.kind ≡ Some format
  pub text : List ℕ
  pub is : IsNumberedOf (seen.files.holds texts.file) format text
  pub gains : Appends seen.before.contents seen.after.contents text
  pub no_file : seen.after.holds ≡ seen.before.holds

-- the words ask for a text with numbers, and the file reads as this framework with these names
pub record NumbersContents (found : Reading) (words : List (List ℕ)) (texts : AfTexts) (format : NameFormat)
    (names : List (List ℕ)) (f : Af) : Type 0 where
  pub asks : IsAfQuery words texts
  pub format_is : format_named texts.kind ≡ Some format
  pub of_framework : HasText found (named_input format texts.file) (λ bytes. NamedReadsAs format bytes names f)

-- ---- texts with names

-- the words ask a query by names of a file in this format
pub record AsksNamesIn (words : List (List ℕ)) (format : NameFormat) (file : List ℕ) : Type 0 where
  pub texts : NamesTexts
  pub asks : IsNamesQuery words texts
  pub naming : Naming
  pub naming_is : naming_by texts ≡ Some naming
  pub format_is : naming.format ≡ format
  pub file_is : texts.file ≡ file

-- the words ask for the text with numbers of a file in this format
pub record AsksNumbersIn (words : List (List ℕ)) (format : NameFormat) (file : List ℕ) : Type 0 where
  pub texts : AfTexts
  pub asks : IsAfQuery words texts
  pub format_is : format_named texts.kind ≡ Some format
  pub file_is : texts.file ≡ file

-- the words ask for either, the file has these bytes, and no read of it fails: it is served, or no fault is counted
pub record NamedBytes (found : Reading) (words : List (List ℕ)) (format : NameFormat) (file bytes : List ℕ) : Type 0
  where
    pub asks : AsksNamesIn words format file ⊎ AsksNumbersIn words format file
    pub known : found.holds file ≡ Some (Some bytes)
    pub no_fault : found.Serves file
        ⊎ ¬ FaultCounted (found.old_count (role.Framework 1)) (found.new_count (role.Framework 1))

-- the bytes have a first fault
abbrev pub IsFaultyNamed : NameFormat → List ℕ → Type 0
IsFaultyNamed format bytes = (line : ℕ) × (cause : NameCause) × IsFirstNameFault format bytes line cause

-- faulty bytes are refused by their first fault, but for want of memory or a write fault
abbrev pub RefusesNamed : NameFormat → List ℕ → Status → Type 0
RefusesNamed format bytes (InputRefused (Line of line cause)) =
    (of ≡ role.Framework 1) × IsFirstFaultAs format bytes line cause
RefusesNamed format bytes WriteFault = Unit {0}
RefusesNamed format bytes WantOfMemory = Unit {0}
RefusesNamed format bytes _ = ⊥

-- ---- refutations

-- the words ask for a check of a refutation, and the files hold the text of this CNF and these bytes
pub record LratContents (found : Reading) (words : List (List ℕ)) (texts : LratTexts) (f : Formula) (bytes : List ℕ)
    : Type 0 where
  pub asks : IsLratQuery words texts
  pub of_cnf : HasText found (input role.Cnf texts.cnf) (λ text. IsCnfText text f)
  pub of_lrat : HasText found (input role.Lrat texts.lrat) (λ text. text ≡ bytes)

-- a check ends as its CNF and the bytes of its refutation say, but for want of memory or a write fault
abbrev pub IsLratEnd : Formula → List ℕ → Status → Type 0
IsLratEnd f bytes WantOfMemory = Unit {0}
IsLratEnd f bytes WriteFault = Unit {0}
IsLratEnd f bytes end = LratEnds f bytes end

-- the words ask for a check of a refutation of the CNF with these bytes, both files can be read, and the refutation has
-- no more bytes than the limit
pub record CnfBytes (found : Reading) (words : List (List ℕ)) (texts : LratTexts) (bytes other : List ℕ) : Type 0 where
  pub asks : IsLratQuery words texts
  pub known : found.holds texts.cnf ≡ Some (Some bytes)
  pub no_fault : found.Serves texts.cnf ⊎ ¬ FaultCounted (found.old_count role.Cnf) (found.new_count role.Cnf)
  pub of_lrat : HasText found (input role.Lrat texts.lrat) (λ text. text ≡ other)

-- the bytes have a first fault
abbrev pub IsFaultyCnf : List ℕ → Type 0
IsFaultyCnf bytes = (line : ℕ) × (cause : CnfCause) × IsCnfFault bytes line cause

-- ---- exports

-- the words ask for an export of this refutation: the files have the texts of the refutation of the certificate that its
-- file reads as, which is accepted, and the output has gained the line with their numbers. Each text was written for a
-- name of its own, and where they are short enough the one is verified by the other (`IsExported`).
pub record WritesExported (seen : Seen) (texts : ExportTexts) : Type 0 where
  pub wanted : Exporting
  pub wanted_is : exporting_by texts ≡ Some wanted
  pub exported : Exported
  pub is : IsExported seen.files.holds wanted texts.check exported
  pub text : Appends seen.before.contents seen.after.contents (exported_text exported)
  pub files : WritesFiles (exported_files texts.output exported) seen.before.holds seen.after.holds

-- the words ask for an export of this refutation, and the files read as these
pub record ExportContents (found : Reading) (words : List (List ℕ)) (texts : ExportTexts) (wanted : Exporting)
    (f : Framework) (answer : Answer) (certificate : Certificate) : Type 0 where
  pub query : IsExportQuery words texts
  pub asks : exporting_by texts ≡ Some wanted
  pub of_framework : HasText found (input (role.Framework 1) texts.check.file) (λ bytes. ReadsAs bytes f)
  pub of_answer : HasText found (input role.Answer texts.check.answer)
      (λ bytes. AnswerReadsAs (filled_fields bytes) answer)
  pub of_certificate : HasText found (input role.Certificate texts.check.certificate)
      (λ bytes. CertReadsAs bytes (Ok certificate))

-- an export ends as its framework, query, answer, certificate and number say, but for want of memory or a write fault:
-- where the certificate is accepted it is done where there is a refutation of the number, and else the number is refused
abbrev pub IsExportEnd : Framework → Exporting → Answer → Certificate → Status → Type 0
IsExportEnd f wanted answer certificate WantOfMemory = Unit {0}
IsExportEnd f wanted answer certificate WriteFault = Unit {0}
IsExportEnd f wanted answer certificate end = ExportEnds f wanted.query answer certificate wanted.number end

-- a number of which there is no refutation is refused, but for want of memory or a write fault
abbrev pub RefusesNumber : ℕ → Status → Type 0
RefusesNumber number (InputRefused (NoRefutation k)) = k ≡ number
RefusesNumber number WriteFault = Unit {0}
RefusesNumber number WantOfMemory = Unit {0}
RefusesNumber number _ = ⊥
