-- What a run promises in the words of its query. All of it follows from what the run does (`IsRunOf`).
use Rattle.std.specs.Prelude.{◌≡◌, ◌≢◌, ℕ, ◌⊎◌, ◌<◌, ◌≤◌, true, List, [], length, None, Some}
use Rattle.argue_outside.specs.Outside.{FaultCounted}
use Rattle.argue_outside.specs.declared.Role.{Role}
use Rattle.argue_outside.specs.declared.Role.TheVariants as role
use Rattle.semantics.specs.Framework.{Af}
use Rattle.semantics.specs.Frameworks.{Framework}
use Rattle.num_text.specs.declared.limit.TheConstants.{MAX_INPUT}
use Rattle.argue_words.specs.Words.{ExportTexts, IsExportQuery, AfTexts, AreWords, BenchTexts, CheckTexts, IsAfQuery}
use Rattle.argue_words.specs.Words.{IsBenchQuery, IsCheckQuery, IsLiveQuery, IsLratQuery, IsNamesQuery, IsSolveQuery}
use Rattle.argue_words.specs.Words.{LiveTexts, LratTexts, NamesTexts, SolveTexts, requested, words_are_problems}
use Rattle.apx_tgf.specs.declared.format.NameFormat.{NameFormat}
use Rattle.lrat_text.specs.CnfText.{Formula}
use Rattle.lrat_commands.specs.Exporting.{HasNoRefutation, exporting_by}
use Rattle.lrat_commands.specs.Verifying.{IsUnsatisfiableOf}
use Rattle.lrat_commands.specs.declared.exporting.Exporting.{Exporting}
use Rattle.named_commands.specs.Namings.{format_named, naming_by}
use Rattle.named_commands.specs.declared.naming.Naming.{Naming}
use Rattle.iccma_tasks.specs.Tasks.{Asked}
use Rattle.iccma_tasks.specs.declared.answer.Answer.{Answer}
use Rattle.certificate_claims.specs.declared.certificate.Certificate.{Certificate}
use Rattle.framework_text.specs.FrameworkText.{IsFaulty}
use Rattle.script_text.specs.declared.script.Script.{Script}
use Rattle.bench_runs.specs.declared.transcript.ScriptTranscript.{ScriptTranscript}
use Rattle.argue_commands.specs.Checks.{CheckEnds}
use Rattle.argue_commands.specs.Queries.{asked_by, budget_of, solving_by}
use Rattle.argue_commands.specs.declared.ended.KeptSession.{KeptSession}
use Rattle.argue_commands.specs.declared.ended.Limit.TheVariants as limit
use Rattle.argue_commands.specs.declared.ended.Status.TheVariants.{Done, WriteFault, Unknown, Limit}
use Rattle.argue_commands.specs.declared.query.Solving.{Solving}
use Rattle.argue_program.specs.LargeInputs.{large_by}
use Rattle.argue_program.specs.Rows.{HasNoInput, row_of}
use Rattle.argue_program.specs.Runs.{AnswersRight, AsksSession, AsksTranscript, ChecksContents, FillsLog, IsFaultyNamed}
use Rattle.argue_program.specs.Runs.{IsNamesEnd, NamedBytes, NamesContents, NumbersContents, RefusesNamed, WritesNamed}
use Rattle.argue_program.specs.Runs.{WritesNumbered, CnfBytes, IsFaultyCnf, IsLratEnd, LratContents, ExportContents}
use Rattle.argue_program.specs.Runs.{IsExportEnd, RefusesNumber, WritesExported, IsCheckEnd, IsDoneOrMemory}
use Rattle.argue_program.specs.Runs.{IsFaultyScript, IsLiveEnd, IsSolveEnd, LivesContents, NamesCertificate}
use Rattle.argue_program.specs.Runs.{QueriesBytes, RefusesBytes, RefusesLength, RefusesWords, ScriptsBytes}
use Rattle.argue_program.specs.Runs.{SolvesContents, SpendsBudget, WritesAnswer, WritesSummary, WritesTranscript}
use Rattle.argue_program.specs.Seen.{Seen}
use Rattle.argue_program.specs.declared.ended.Ended.{Ended}
use Rattle.argue_program.specs.declared.large.LargeInput.{LargeInput}

-- what a run of these words promises, by what is seen of it and how it ended
pub record Promises (words : List (List ℕ)) (seen : Seen) (ended : Ended) : Type 0 where
  -- ---- the headline, for the one query there is, over what the run keeps
  -- a session that is kept is that of the words' query: its answer is right, and its certificate is accepted
  pub right : (session : KeptSession) → ended.kept.session ≡ Some session
      → AsksSession words seen.files.holds session
  -- the run is unknown only where the log has spent the budget
  pub unknown : ended.status ≡ Unknown → SpendsBudget words seen.files.holds ended.kept
  -- it is stopped by a full log only where the log is full
  pub full : ended.status ≡ Limit limit.Log → FillsLog words seen.files.holds ended.kept
  -- a query that is done has written a right answer, and an accepted certificate where a file is named
  pub solved : (texts : SolveTexts) → IsSolveQuery words texts → ended.status ≡ Done → WritesAnswer seen texts
  -- ---- the same for scripts and large inputs
  -- a transcript that is kept is that of the words' script on the framework in its file, or of the words' large input:
  -- each of its replies is about the framework after a prefix of the committed groups of edits
  pub transcript : (one : ScriptTranscript) → ended.kept.script ≡ Some one
      → AsksTranscript words seen.files.holds one
  -- a script's run that is done has written that transcript, and the certificates of all its answers where a file is
  -- named
  pub live : (texts : LiveTexts) → IsLiveQuery words texts → ended.status ≡ Done
      → WritesTranscript seen texts ended.kept
  -- that of a large input has written the summary
  pub bench : (texts : BenchTexts) → IsBenchQuery words texts → ended.status ≡ Done
      → WritesSummary seen texts ended.kept
  -- ---- completeness: with well-formed words and input and no fault, the run does what was asked, or wants memory
  -- without words it is done
  pub version : words ≡ [] → ended.status ≢ WriteFault → ended.status ≡ Done
  -- the list of tasks is done, or wants memory
  pub problems : words_are_problems words ≡ true → ended.status ≢ WriteFault → IsDoneOrMemory ended.status
  -- a query on a file that reads as a framework ends as its session's reply says
  pub complete : (texts : SolveTexts) (query : Solving) (f : Framework)
      → SolvesContents seen.files words texts query f → IsSolveEnd f query ended.kept ended.status
  -- a script's run on files that read as a framework and a script is done
  pub complete_script : (texts : LiveTexts) (budget : ℕ) (f : Framework) (script : Script)
      → LivesContents seen.files words texts budget f script → IsLiveEnd f script budget ended.kept ended.status
  -- a large input's run is done
  pub complete_bench : (texts : BenchTexts) (large : LargeInput) → IsBenchQuery words texts
      → large_by texts ≡ Some large → ended.status ≢ WriteFault → IsDoneOrMemory ended.status
  -- ---- the converses: words that aren't well-formed, or that ask for what there isn't, are refused, and so is a file
  -- with a fault and one over the limit
  -- words that aren't well-formed are refused
  pub usage : ¬ AreWords words → RefusesWords ended.status
  -- a query that there isn't is refused
  pub no_query : (texts : SolveTexts) → IsSolveQuery words texts → solving_by texts ≡ None
      → RefusesWords ended.status
  -- a framework with a fault is refused by its first
  pub faulty : (texts : SolveTexts) (query : Solving) (bytes : List ℕ)
      → QueriesBytes seen.files words texts query bytes → IsFaulty bytes → length bytes ≤ MAX_INPUT
      → RefusesBytes (role.Framework 1) bytes ended.status
  -- a framework over the limit is refused for its length
  pub too_long : (texts : SolveTexts) (query : Solving) (bytes : List ℕ)
      → QueriesBytes seen.files words texts query bytes → MAX_INPUT < length bytes → RefusesLength ended.status
  -- a script's run whose budget is none is refused
  pub no_budget : (texts : LiveTexts) → IsLiveQuery words texts → budget_of texts.budget ≡ None
      → RefusesWords ended.status
  -- a large input that there isn't is refused
  pub no_large : (texts : BenchTexts) → IsBenchQuery words texts → large_by texts ≡ None
      → RefusesWords ended.status
  -- a script with a fault is refused by its first
  pub faulty_script : (texts : LiveTexts) (budget : ℕ) (f : Framework) (bytes : List ℕ)
      → ScriptsBytes seen.files words texts budget f bytes → IsFaultyScript bytes → length bytes ≤ MAX_INPUT
      → RefusesBytes role.Script bytes ended.status
  -- a script over the limit is refused for its length
  pub long_script : (texts : LiveTexts) (budget : ℕ) (f : Framework) (bytes : List ℕ)
      → ScriptsBytes seen.files words texts budget f bytes → MAX_INPUT < length bytes
      → RefusesLength ended.status
  -- ---- checks
  -- a check is done only where the answer is right
  pub accepted : (texts : CheckTexts) → IsCheckQuery words texts → ended.status ≡ Done
      → AnswersRight seen.files.holds texts
  -- one of files that read as something, with no fault, ends as these say, or wants memory
  pub checked : (texts : CheckTexts) (asked : Asked) (f : Framework) (answer : Answer) (certificate : Certificate)
      → ChecksContents seen.files words texts asked f answer certificate
      → IsCheckEnd f asked answer certificate ended.status
  -- one that asks no query is refused
  pub unasked : (texts : CheckTexts) → IsCheckQuery words texts → asked_by texts.task texts.number ≡ None
      → RefusesWords ended.status
  -- ---- queries by names, and texts with numbers
  -- a query by names that is done has written a right answer by names, and an accepted certificate where a file is named
  pub named : (texts : NamesTexts) → IsNamesQuery words texts → ended.status ≡ Done → WritesNamed seen texts
  -- one on a file that reads as a framework with names ends as its session's reply says, or is refused for its name
  pub complete_names : (texts : NamesTexts) (naming : Naming) (names : List (List ℕ)) (f : Af)
      → NamesContents seen.files words texts naming names f
      → IsNamesEnd names f naming texts.name ended.kept ended.status
  -- one that there isn't is refused
  pub no_naming : (texts : NamesTexts) → IsNamesQuery words texts → naming_by texts ≡ None → RefusesWords ended.status
  -- a text with numbers that is done has been written
  pub numbered : (texts : AfTexts) → IsAfQuery words texts → ended.status ≡ Done → WritesNumbered seen texts
  -- one of a file that reads as a framework with names is done
  pub complete_af : (texts : AfTexts) (format : NameFormat) (names : List (List ℕ)) (f : Af)
      → NumbersContents seen.files words texts format names f → ended.status ≢ WriteFault
      → IsDoneOrMemory ended.status
  -- one in a format that there isn't is refused
  pub no_format : (texts : AfTexts) → IsAfQuery words texts → format_named texts.kind ≡ None
      → RefusesWords ended.status
  -- a file of either with a fault is refused by its first
  pub faulty_names : (format : NameFormat) (file bytes : List ℕ) → NamedBytes seen.files words format file bytes
      → IsFaultyNamed format bytes → length bytes ≤ MAX_INPUT → RefusesNamed format bytes ended.status
  -- one over the limit is refused for its length
  pub long_names : (format : NameFormat) (file bytes : List ℕ) → NamedBytes seen.files words format file bytes
      → MAX_INPUT < length bytes → RefusesLength ended.status
  -- ---- refutations
  -- a check of a refutation is done only where no valuation makes every clause of the CNF true
  pub verified : (texts : LratTexts) → IsLratQuery words texts → ended.status ≡ Done
      → IsUnsatisfiableOf (seen.files.holds texts.cnf)
  -- one of files that hold a CNF and some bytes ends as these say, or wants memory
  pub complete_lrat : (texts : LratTexts) (f : Formula) (bytes : List ℕ)
      → LratContents seen.files words texts f bytes → IsLratEnd f bytes ended.status
  -- a CNF with a fault is refused by its first
  pub faulty_cnf : (texts : LratTexts) (bytes other : List ℕ) → CnfBytes seen.files words texts bytes other
      → IsFaultyCnf bytes → length bytes ≤ MAX_INPUT → RefusesBytes role.Cnf bytes ended.status
  -- one over the limit is refused for its length
  pub long_cnf : (texts : LratTexts) (bytes other : List ℕ) → CnfBytes seen.files words texts bytes other
      → MAX_INPUT < length bytes → RefusesLength ended.status
  -- ---- exports
  -- an export that is done has written the texts of the refutation, whose certificate is accepted
  pub exported : (texts : ExportTexts) → IsExportQuery words texts → ended.status ≡ Done → WritesExported seen texts
  -- one of files that read as something, with no fault, ends as these say, or wants memory
  pub complete_export : (texts : ExportTexts) (wanted : Exporting) (f : Framework) (answer : Answer)
      (certificate : Certificate) → ExportContents seen.files words texts wanted f answer certificate
      → IsExportEnd f wanted answer certificate ended.status
  -- one of a number of which an accepted certificate has no refutation is refused for it
  pub no_refutation : (texts : ExportTexts) (wanted : Exporting) (f : Framework) (answer : Answer)
      (certificate : Certificate) → ExportContents seen.files words texts wanted f answer certificate
      → CheckEnds f wanted.query answer certificate Done → HasNoRefutation certificate wanted.number
      → RefusesNumber wanted.number ended.status
  -- one that asks for no refutation is refused
  pub no_export : (texts : ExportTexts) → IsExportQuery words texts → exporting_by texts ≡ None
      → RefusesWords ended.status
  -- ---- faults and files
  -- a write fault was counted
  pub write_fault : ended.status ≡ WriteFault
      → FaultCounted seen.before.fault_count seen.after.fault_count
      ⊎ FaultCounted seen.before.write_count seen.after.write_count
  -- and by the output where each name for certificates and texts of refutations is accepted
  pub output_fault : ((name : List ℕ) → NamesCertificate words name → seen.Accepts name)
      → ended.status ≡ WriteFault → FaultCounted seen.before.fault_count seen.after.fault_count
  -- no file changes but those for certificates and texts of refutations
  pub other_files : (name : List ℕ) → ¬ NamesCertificate words name
      → seen.after.holds name ≡ seen.before.holds name
  -- and those only where the run is done or its writing fails
  pub untouched : ended.status ≢ Done → ended.status ≢ WriteFault → seen.after.holds ≡ seen.before.holds
  -- a fault of writing files is counted only where the run ends by it
  pub no_write : ended.status ≢ WriteFault → seen.after.write_count ≡ seen.before.write_count
  -- no fault of reading is counted in a role in which the command reads no input
  pub no_other_read : (of : Role) → HasNoInput (row_of seen.files.holds (requested words)) of
      → seen.files.new_count of ≡ seen.files.old_count of
