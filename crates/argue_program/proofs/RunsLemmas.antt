-- What follows of a run, in the words of its query.
use Rattle.std.proofs.Common.{◌≡◌, ◌≢◌, ◌∙◌, ◌⊎◌, ◌<◌, ◌≤◌, ℕ, List, [], length, refl, sym, ap, subst, inl, inr, ⊎_elim}
use Rattle.std.proofs.Common.{true, Option, None, Some, map}
use Rattle.std.specs.Io.KnownBytes.{Appends}
use Rattle.argue_outside.specs.Outside.{FaultCounted}
use Rattle.argue_outside.specs.declared.Role.{Role}
use Rattle.argue_outside.specs.declared.Role.TheVariants.{Framework, Script as OfScript, Cnf as OfCnf}
use Rattle.argue_words.specs.Words.{AfTexts, AreWords, BenchTexts, CheckTexts, IsAfQuery, IsBenchQuery, IsCheckQuery}
use Rattle.argue_words.specs.Words.{ExportTexts, IsExportQuery, IsLiveQuery, IsLratQuery, IsNamesQuery, IsSolveQuery}
use Rattle.argue_words.specs.Words.{LiveTexts, LratTexts, NamesTexts, Request, SolveTexts, version, problems, unknown}
use Rattle.argue_words.specs.Words.{requested, words_are_problems}
use Rattle.argue_words.proofs.RequestLaws.{requested_af, requested_export, requested_input, requested_list}
use Rattle.argue_words.proofs.RequestLaws.{requested_lrat, requested_names, requested_none, requested_query}
use Rattle.argue_words.proofs.RequestLaws.{requested_script, requested_texts, requested_unknown}
use Rattle.apx_tgf.specs.declared.format.NameFormat.{NameFormat}
use Rattle.named_commands.specs.NamedTexts.{named_reply}
use Rattle.named_commands.specs.Namings.{format_named, naming_by, solving_of}
use Rattle.named_commands.specs.Numberings.{IsNumberedOf}
use Rattle.named_commands.specs.declared.naming.Naming.{Naming}
use Rattle.lrat_text.specs.CnfText.{Formula}
use Rattle.lrat_commands.specs.Exporting.{HasNoRefutation, exporting_by}
use Rattle.lrat_commands.specs.Verifying.{IsUnsatisfiableOf}
use Rattle.lrat_commands.specs.declared.exporting.Exporting.{Exporting}
use Rattle.semantics.specs.Framework.{Af}
use Rattle.semantics.specs.Frameworks.{af, Framework as AnyFramework}
use Rattle.framework_text.specs.FrameworkText.{IsFaulty}
use Rattle.argue_commands.specs.Replacing.{FileText, certificate_files, file_text, WritesFiles}
use Rattle.argue_program.specs.Rows.{AreFiles, EndsCommand, EndsLarge, EndsLive, EndsNamed, EndsSolved, HasNoInput, Row}
use Rattle.argue_program.specs.Rows.{SaysNamed, export_row, lrat_row, af_row, bench_row, check_row, certificates_files}
use Rattle.argue_program.specs.Rows.{files_beside, live_row, names_row, row_of, script_files, script_kept, script_text}
use Rattle.argue_program.specs.Rows.{session_files, session_text, solve_row}
use Rattle.iccma_tasks.specs.Tasks.{Asked}
use Rattle.argue_program.specs.LargeInputs.{large_by}
use Rattle.argue_commands.specs.Checks.{CheckEnds}
use Rattle.argue_commands.specs.Queries.{asked_by, budget_of, solving_by}
use Rattle.argue_commands.specs.Opening.{live_inputs}
use Rattle.argue_program.specs.Scripts.{transcript_bytes}
use Rattle.bench_runs.specs.Summaries.{summary}
use Rattle.bench_runs.specs.declared.transcript.ScriptTranscript.{ScriptTranscript}
use Rattle.script_text.specs.declared.script.Script.{Script}
use Rattle.argue_commands.specs.Solves.{status_of}
use Rattle.argue_program.specs.declared.large.LargeInput.{LargeInput}
use Rattle.argue_commands.specs.declared.query.Solving.{Solving}
use Rattle.argue_commands.proofs.SolveLemmas.{done_reply}
use Rattle.argue_commands.proofs.CheckLemmas.{stops_told}
use Rattle.iccma_tasks.specs.WrittenText.{text_of as answer_text}
use Rattle.iccma_tasks.specs.declared.answer.Answer.{Answer}
use Rattle.certificate_claims.specs.declared.certificate.Certificate.{Certificate}
use Rattle.argue_program.specs.Promises.{Promises}
use Rattle.argue_program.specs.Seen.{Seen}
use Rattle.argue_program.specs.Runs.{AnswersRight, AsksSession, AsksTranscript, ChecksContents, FillsLog, IsCheckEnd}
use Rattle.argue_program.specs.Runs.{IsDoneOrMemory, IsFaultyScript, IsLiveEnd, IsRunOf, IsSolveEnd, LivesContents}
use Rattle.argue_program.specs.Runs.{NamesCertificate, QueriesBytes, RefusesBytes, RefusesLength, RefusesWords}
use Rattle.argue_program.specs.Runs.{ScriptsBytes, SolvesContents, SpendsBudget, WritesAnswer, CnfBytes, IsFaultyCnf}
use Rattle.argue_program.specs.Runs.{ExportContents, IsExportEnd, RefusesNumber, WritesExported, IsLratEnd}
use Rattle.argue_program.specs.Runs.{LratContents, WritesSummary, WritesTranscript, IsFaultyNamed, IsNamesEnd}
use Rattle.argue_program.specs.Runs.{NamedBytes, NamesContents, NumbersContents, RefusesNamed, WritesNamed}
use Rattle.argue_program.specs.Runs.{WritesNumbered}
use Rattle.argue_commands.specs.Texts.{common_text, text_bytes}
use Rattle.argue_program.specs.declared.ended.Ended.{Ended}
use Rattle.argue_commands.specs.declared.ended.KeptSession.{KeptSession}
use Rattle.argue_commands.specs.declared.ended.Status.{Status}
use Rattle.argue_commands.specs.declared.ended.Status.TheVariants.{Done, InputRefused, WriteFault, Unknown, Limit}
use Rattle.argue_commands.specs.declared.ended.Refusal.TheVariants.{UnknownName}
use Rattle.argue_program.specs.declared.ended.Transcript.{Transcript}
use Rattle.num_text.specs.declared.limit.TheConstants.{MAX_INPUT}
use Rattle.argue_program.proofs.EndsLemmas.{EndsLiving, EndsQuery, at_query, done_no_memory, done_right, ends_check}
use Rattle.argue_program.proofs.EndsLemmas.{ends_live, ends_large, ends_living, ends_query, ends_solve, ends_unknown}
use Rattle.argue_program.proofs.EndsLemmas.{large_done, problems_done, refuses_bytes, refuses_length}
use Rattle.argue_program.proofs.EndsLemmas.{refuses_long_script, refuses_script, refuses_words, version_done}
use Rattle.argue_commands.proofs.ReplacingLemmas.{HaveOtherNames, written_other, broken_other}
use Rattle.argue_program.proofs.ExportLemmas.{ends_export, export_writes, refuses_number}
use Rattle.argue_program.proofs.FilesLemmas.{HasTexts, are_beside, no_files, said_done, script_files_is}
use Rattle.argue_program.proofs.FilesLemmas.{session_files_is, session_text_is}
use Rattle.argue_program.proofs.KeptLemmas.{ending_other, kept_at, output_fault, script_at, some_is, write_fault_or}
use Rattle.argue_program.proofs.LratLemmas.{done_unsatisfiable, ends_lrat, refuses_cnf, refuses_long_cnf}
use Rattle.argue_program.proofs.NamesLemmas.{EndsAsking, EndsInFormat, af_is_done, asking_in, ends_asking, ends_names}
use Rattle.argue_program.proofs.NamesLemmas.{ends_numbering, numbering_in, refuses_long_names, refuses_named}
use Rattle.argue_commands.specs.declared.ended.Limit.TheVariants as limit
use Rattle.argue_program.proofs.WhyLemmas.{SaysWhy, KeepsAsked, not_why, keeps_asked, spends_budget, fills_log}

module _ (words : List (List ℕ)) (seen : Seen) (ended : Ended) (run : IsRunOf words seen ended) where
  ends : ended.status ≢ WriteFault
      → EndsCommand seen.files (row_of seen.files.holds (requested words)) ended.kept ended.status
  ends whole =
      let P : Transcript → Type 0 =
      λ k. EndsCommand seen.files (row_of seen.files.holds (requested words)) k run.ending.status in
      let Q : Status → Type 0 = EndsCommand seen.files (row_of seen.files.holds (requested words)) ended.kept in
      subst Q (sym (run.whole whole).0) (subst P (sym run.kept) run.decided.cause)

  ends_on : (texts : SolveTexts) (query : Solving) → IsSolveQuery words texts → solving_by texts ≡ Some query
      → ended.status ≢ WriteFault → EndsQuery seen.files texts query ended.kept ended.status
  ends_on texts query asks query_is whole =
      ends_query seen.files texts query ended.kept ended.status
      (at_query seen.files words texts (Some query) ended.kept ended.status asks query_is (ends whole))

  -- a session that the run keeps is that of the words' query
  right_session : (session : KeptSession) → ended.kept.session ≡ Some session
      → AsksSession words seen.files.holds session
  right_session session is =
      let P : Transcript → Type 0 =
      λ k. EndsCommand seen.files (row_of seen.files.holds (requested words)) k run.ending.status in
      kept_at seen.files words (requested words) ended.kept run.ending.status session refl (subst P
      (sym run.kept) run.decided.cause) is

  kept_why : SaysWhy ended.status → KeepsAsked words seen.files.holds ended.kept ended.status
  kept_why why =
      keeps_asked seen.files words (requested words) ended.kept ended.status why refl
      (ends (not_why ended.status WriteFault why (λ w. w)))

  -- a run that ends as unknown spent the budget
  spent : ended.status ≡ Unknown → SpendsBudget words seen.files.holds ended.kept
  spent is =
      spends_budget words seen.files.holds ended.kept
      (subst (KeepsAsked words seen.files.holds ended.kept) is (kept_why (subst SaysWhy (sym is) tt)))

  -- a run that ends by a full log filled it
  filled : ended.status ≡ Limit limit.Log → FillsLog words seen.files.holds ended.kept
  filled is =
      fills_log words seen.files.holds ended.kept
      (subst (KeepsAsked words seen.files.holds ended.kept) is (kept_why (subst SaysWhy (sym is) tt)))

  complete : (texts : SolveTexts) (query : Solving) (f : AnyFramework)
      → SolvesContents seen.files words texts query f → IsSolveEnd f query ended.kept ended.status
  complete texts query f contents = ⊎_elim
      (λ broken. let P : Status → Type 0 = IsSolveEnd f query ended.kept in subst P (sym broken) tt)
      (λ whole. ends_solve seen.files words texts query f contents ended.kept ended.status
      (ends_on texts query contents.asks contents.query_is whole)) (write_fault_or ended.status)

  faulty : (texts : SolveTexts) (query : Solving) (bytes : List ℕ)
      → QueriesBytes seen.files words texts query bytes → IsFaulty bytes → length bytes ≤ MAX_INPUT
      → RefusesBytes (Framework 1) bytes ended.status
  faulty texts query bytes asks bad short =
      refuses_bytes seen.files words texts query bytes ended.kept asks ended.status bad short
      (ends_on texts query asks.asks asks.query_is)

  too_long : (texts : SolveTexts) (query : Solving) (bytes : List ℕ)
      → QueriesBytes seen.files words texts query bytes → MAX_INPUT < length bytes → RefusesLength ended.status
  too_long texts query bytes asks long =
      refuses_length seen.files words texts query bytes ended.kept asks ended.status long
      (ends_on texts query asks.asks asks.query_is)

  -- a query that there isn't is refused
  no_query : (texts : SolveTexts) → IsSolveQuery words texts → solving_by texts ≡ None → RefusesWords ended.status
  no_query texts asks none =
      refuses_words seen.files ended.kept ended.status
      (λ whole. at_query seen.files words texts None ended.kept ended.status asks none (ends whole))

  problems_told : words_are_problems words ≡ true → ended.status ≢ WriteFault → IsDoneOrMemory ended.status
  problems_told listed whole =
      let P : Request → Type 0 = λ r. EndsCommand seen.files (row_of seen.files.holds r) ended.kept ended.status in
      problems_done seen.files ended.kept ended.status (subst P (requested_list words listed) (ends whole))

  usage : ¬ AreWords words → RefusesWords ended.status
  usage other =
      let P : Request → Type 0 = λ r. EndsCommand seen.files (row_of seen.files.holds r) ended.kept ended.status in
      refuses_words seen.files ended.kept ended.status (λ whole. subst P (requested_unknown words other) (ends whole))

  version_is_done : words ≡ [] → ended.status ≢ WriteFault → ended.status ≡ Done
  version_is_done none whole =
      let P : Request → Type 0 = λ r. EndsCommand seen.files (row_of seen.files.holds r) ended.kept ended.status in
      version_done seen.files ended.kept ended.status (subst P (requested_none words none) (ends whole))

  write_fault : ended.status ≡ WriteFault
      → FaultCounted seen.before.fault_count seen.after.fault_count
      ⊎ FaultCounted seen.before.write_count seen.after.write_count
  write_fault broken = ⊎_elim (λ files. inr files.counted) (λ text. inl text.counted) (run.broken broken)

  -- where each name for certificates is accepted, a write fault is one of the output
  output_fails : ((name : List ℕ) → NamesCertificate words name → seen.Accepts name) → ended.status ≡ WriteFault
      → FaultCounted seen.before.fault_count seen.after.fault_count
  output_fails all broken =
      output_fault seen.files words seen.Accepts run.ending seen.before.fault_count seen.after.fault_count
      run.decided all (run.refused broken)

  no_write : ended.status ≢ WriteFault → seen.after.write_count ≡ seen.before.write_count
  no_write whole = (run.whole whole).1.no_fault.0

  -- the files that the ending has to write have other names than one that names no certificate
  named_otherwise : (name : List ℕ) → ¬ NamesCertificate words name
      → HaveOtherNames name (map file_text run.ending.files)
  named_otherwise name other = ending_other seen.files words run.ending name run.decided other

  other_files : (name : List ℕ) → ¬ NamesCertificate words name → seen.after.holds name ≡ seen.before.holds name
  other_files name other =
      let names = named_otherwise name other in
      let files = map file_text run.ending.files in
      let old = seen.before.holds in
      let new = seen.after.holds in
      ⊎_elim
      (λ broken. ⊎_elim
      (λ in_files. broken_other name files old new names in_files.files)
      (λ in_text. written_other name files old new names in_text.files)
      (run.broken broken))
      (λ whole. written_other name files old new names (run.whole whole).1.files)
      (write_fault_or ended.status)

  untouched : ended.status ≢ Done → ended.status ≢ WriteFault → seen.after.holds ≡ seen.before.holds
  untouched other whole =
      let both = run.whole whole in
      let P : List FileText → Type 0 = λ files. WritesFiles files seen.before.holds seen.after.holds in
      let none : map file_text run.ending.files ≡ [] =
      no_files ((row_of seen.files.holds (requested words)).Writes run.ending.kept run.ending.status
      (text_bytes run.ending.text)) (map file_text run.ending.files) run.ending.status
      (λ done. other (both.0 ∙ done)) run.decided.files in
      subst P none both.1.files

  other_counts : (other : Role) → HasNoInput (row_of seen.files.holds (requested words)) other
      → seen.files.new_count other ≡ seen.files.old_count other
  other_counts other none = run.decided.counts.others other none

  -- at a check, the row is that of its query
  at_check : (texts : CheckTexts) (by : Option Asked) → IsCheckQuery words texts → asked_by texts.task texts.number ≡ by
      → ended.status ≢ WriteFault → EndsCommand seen.files (check_row seen.files.holds by texts) ended.kept ended.status
  at_check texts by query asks whole =
      let P : Request → Type 0 = λ r. EndsCommand seen.files (row_of seen.files.holds r) ended.kept ended.status in
      let Q : Option Asked → Type 0 =
      λ o. EndsCommand seen.files (check_row seen.files.holds o texts) ended.kept ended.status in
      subst Q asks (subst P (requested_texts words texts query) (ends whole))

  -- where a check is done, the answer is right
  accepted : (texts : CheckTexts) → IsCheckQuery words texts → ended.status ≡ Done
      → AnswersRight seen.files.holds texts
  accepted texts query done =
      let P : Status → Type 0 =
      λ e. EndsCommand seen.files (check_row seen.files.holds (asked_by texts.task texts.number) texts) ended.kept e in
      done_right seen.files (asked_by texts.task texts.number) texts ended.kept refl
      (subst P done (at_check texts (asked_by texts.task texts.number) query refl (λ e. let x : Done ≡ WriteFault =
      sym done ∙ e in cc)))

  checked : (texts : CheckTexts) (asked : Asked) (f : AnyFramework) (answer : Answer) (certificate : Certificate)
      → ChecksContents seen.files words texts asked f answer certificate
      → IsCheckEnd f asked answer certificate ended.status
  checked texts asked f answer certificate contents = ⊎_elim
      (λ broken. let P : Status → Type 0 = IsCheckEnd f asked answer certificate in subst P (sym broken) tt)
      (λ whole. ends_check seen.files words texts asked f answer certificate contents ended.kept ended.status
      (at_check texts (Some asked) contents.query contents.asks whole)) (write_fault_or ended.status)

  -- a check that asks no query is refused
  unasked : (texts : CheckTexts) → IsCheckQuery words texts → asked_by texts.task texts.number ≡ None
      → RefusesWords ended.status
  unasked texts query asks =
      refuses_words seen.files ended.kept ended.status (λ whole. at_check texts None query asks whole)

  -- a query that is done writes its answer
  written_done : (texts : SolveTexts) (query : Solving) → IsSolveQuery words texts → solving_by texts ≡ Some query
      → ended.status ≡ Done → EndsSolved (seen.files.holds texts.file) query ended.kept ended.status
      → WritesAnswer seen texts
  written_done texts query asks query_is done solved =
      let whole : ended.status ≢ WriteFault = λ e. let x : Done ≡ WriteFault = sym done ∙ e in cc in
      let both = run.whole whole in
      let status : run.ending.status ≡ Done = sym both.0 ∙ done in
      let keeps : run.ending.kept.session ≡ Some solved.session =
      ap (λ (k : Transcript). k.session) (sym run.kept ∙ solved.keeps) in
      let told = done_reply solved.on.framework query solved.session solved.on.is (sym done ∙ solved.ends) in
      let Says : Row → Type 0 = HasTexts run.ending in
      let P : Request → Type 0 = λ r. Says (row_of seen.files.holds r) in
      let Q : Option Solving → Type 0 = λ o. Says (solve_row seen.files.holds o texts) in
      let says = subst Q query_is
      (subst P (requested_query words texts asks) (run.decided.text, run.decided.files)) in
      let text : text_bytes run.ending.text ≡ answer_text told.reply.answer =
      said_done run.ending.status (λ t. t ≡ session_text run.ending.kept.session) (text_bytes run.ending.text) status
      says.0 ∙ session_text_is run.ending.kept.session solved.session told.reply keeps told.is
      in
      let files : map file_text run.ending.files ≡ certificate_files texts.certificate told.reply.certificate =
      are_beside (common_text run.ending.status) (session_files texts.certificate run.ending.kept.session) (map file_text run.ending.files) says.1
      ∙ session_files_is run.ending.status texts.certificate run.ending.kept.session solved.session told.reply status
      keeps
      told.is in
      record {
        query = query;
        query_is = query_is;
        framework = solved.on.framework;
        of_framework = solved.on.of_framework;
        reply = told.reply;
        replies = told.replies;
        text = subst (Appends seen.before.contents seen.after.contents) text both.1.text;
        files = subst (λ list. WritesFiles list seen.before.holds seen.after.holds) files both.1.files;
      }

  at_done : (texts : SolveTexts) (by : Option Solving) → IsSolveQuery words texts → solving_by texts ≡ by
      → ended.status ≡ Done → EndsCommand seen.files (solve_row seen.files.holds by texts) ended.kept Done
      → WritesAnswer seen texts
  at_done texts None asks query_is done cause =
      absurd (ends_unknown seen.files ended.kept Done (λ e. cc) (λ e. cc) cause)
  at_done texts (Some query) asks query_is done cause =
      from_query (ends_query seen.files texts query ended.kept Done cause)
    where
      from_query : EndsQuery seen.files texts query ended.kept Done → WritesAnswer seen texts
      from_query (inl stops) = absurd stops
      from_query (inr (inl is)) = absurd (done_no_memory is)
      from_query (inr (inr solved)) =
          written_done texts query asks query_is done
          (subst (EndsSolved (seen.files.holds texts.file) query ended.kept) (sym done) solved)

  -- a query that is done writes a right answer, and an accepted certificate where a file is named
  solved_written : (texts : SolveTexts) → IsSolveQuery words texts → ended.status ≡ Done
      → WritesAnswer seen texts
  solved_written texts asks done =
      let P : Status → Type 0 = EndsCommand seen.files (row_of seen.files.holds (requested words)) ended.kept in
      let cause = subst P done (ends (λ e. let x : Done ≡ WriteFault = sym done ∙ e in cc)) in
      at_done texts (solving_by texts) asks refl done
      (at_query seen.files words texts (solving_by texts) ended.kept Done asks refl cause)

  -- ---- scripts

  -- a transcript that the run keeps is that of the words' script or large input
  right_transcript : (transcript : ScriptTranscript) → ended.kept.script ≡ Some transcript
      → AsksTranscript words seen.files.holds transcript
  right_transcript transcript is =
      let P : Transcript → Type 0 =
      λ k. EndsCommand seen.files (row_of seen.files.holds (requested words)) k run.ending.status in
      script_at seen.files words (requested words) ended.kept run.ending.status transcript refl (subst P
      (sym run.kept) run.decided.cause) is

  -- at a script's run, the row is that of its budget
  at_script : (texts : LiveTexts) (by : Option ℕ) → IsLiveQuery words texts → budget_of texts.budget ≡ by
      → ended.status ≢ WriteFault → EndsCommand seen.files (live_row seen.files.holds by texts) ended.kept ended.status
  at_script texts by asks budget_is whole =
      let P : Request → Type 0 = λ r. EndsCommand seen.files (row_of seen.files.holds r) ended.kept ended.status in
      let Q : Option ℕ → Type 0 =
      λ o. EndsCommand seen.files (live_row seen.files.holds o texts) ended.kept ended.status in
      subst Q budget_is (subst P (requested_script words texts asks) (ends whole))

  lives_on : (texts : LiveTexts) (budget : ℕ) → IsLiveQuery words texts → budget_of texts.budget ≡ Some budget
      → ended.status ≢ WriteFault → EndsLiving seen.files texts budget ended.kept ended.status
  lives_on texts budget asks budget_is whole =
      ends_living seen.files texts budget ended.kept ended.status (at_script texts (Some budget) asks budget_is whole)

  complete_script : (texts : LiveTexts) (budget : ℕ) (f : AnyFramework) (script : Script)
      → LivesContents seen.files words texts budget f script → IsLiveEnd f script budget ended.kept ended.status
  complete_script texts budget f script contents = ⊎_elim
      (λ broken. let P : Status → Type 0 = IsLiveEnd f script budget ended.kept in subst P (sym broken) tt)
      (λ whole. ends_live seen.files words texts budget f script contents ended.kept ended.status
      (lives_on texts budget contents.asks contents.budget_is whole)) (write_fault_or ended.status)

  faulty_script : (texts : LiveTexts) (budget : ℕ) (f : AnyFramework) (bytes : List ℕ)
      → ScriptsBytes seen.files words texts budget f bytes → IsFaultyScript bytes → length bytes ≤ MAX_INPUT
      → RefusesBytes OfScript bytes ended.status
  faulty_script texts budget f bytes asks bad short = ⊎_elim
      (λ broken. let P : Status → Type 0 = RefusesBytes OfScript bytes in subst P (sym broken) tt)
      (λ whole. refuses_script seen.files words texts budget f bytes ended.kept asks ended.status bad short
      (lives_on texts budget asks.asks asks.budget_is whole)) (write_fault_or ended.status)

  long_script : (texts : LiveTexts) (budget : ℕ) (f : AnyFramework) (bytes : List ℕ)
      → ScriptsBytes seen.files words texts budget f bytes → MAX_INPUT < length bytes → RefusesLength ended.status
  long_script texts budget f bytes asks long = ⊎_elim
      (λ broken. subst RefusesLength (sym broken) tt)
      (λ whole. refuses_long_script seen.files words texts budget f bytes ended.kept asks ended.status long
      (lives_on texts budget asks.asks asks.budget_is whole)) (write_fault_or ended.status)

  -- a budget that is none is refused
  no_budget : (texts : LiveTexts) → IsLiveQuery words texts → budget_of texts.budget ≡ None
      → RefusesWords ended.status
  no_budget texts asks none =
      refuses_words seen.files ended.kept ended.status (λ whole. at_script texts None asks none whole)

  written_script : (texts : LiveTexts) (budget : ℕ) → IsLiveQuery words texts → budget_of texts.budget ≡ Some budget
      → ended.status ≡ Done → EndsLive seen.files.holds budget texts ended.kept ended.status
      → WritesTranscript seen texts ended.kept
  written_script texts budget asks budget_is done lives =
      let whole : ended.status ≢ WriteFault = λ e. let x : Done ≡ WriteFault = sym done ∙ e in cc in
      let both = run.whole whole in
      let status : run.ending.status ≡ Done = sym both.0 ∙ done in
      let keeps : run.ending.kept ≡ script_kept lives.transcript = sym run.kept ∙ lives.keeps in
      let Says : Row → Type 0 = HasTexts run.ending in
      let P : Request → Type 0 = λ r. Says (row_of seen.files.holds r) in
      let Q : Option ℕ → Type 0 = λ o. Says (live_row seen.files.holds o texts) in
      let says = subst Q budget_is
      (subst P (requested_script words texts asks) (run.decided.text, run.decided.files)) in
      let text : text_bytes run.ending.text ≡ transcript_bytes lives.transcript =
      said_done run.ending.status (λ t. t ≡ script_text run.ending.kept.script) (text_bytes run.ending.text) status
      says.0 ∙ ap (λ (k : Transcript). script_text k.script) keeps in
      let files : map file_text run.ending.files ≡ certificates_files texts.certificate lives.transcript =
      are_beside (common_text run.ending.status) (script_files texts.certificate run.ending.kept.script) (map file_text run.ending.files) says.1
      ∙ script_files_is run.ending.status texts.certificate run.ending.kept lives.transcript status keeps in
      record {
        budget = budget;
        budget_is = budget_is;
        transcript = lives.transcript;
        keeps = ap (λ (k : Transcript). k.script) lives.keeps;
        runs = lives.runs;
        text = subst (Appends seen.before.contents seen.after.contents) text both.1.text;
        files = subst (λ list. WritesFiles list seen.before.holds seen.after.holds) files both.1.files;
      }

  at_done_script : (texts : LiveTexts) (by : Option ℕ) → IsLiveQuery words texts → budget_of texts.budget ≡ by
      → ended.status ≡ Done → EndsCommand seen.files (live_row seen.files.holds by texts) ended.kept Done
      → WritesTranscript seen texts ended.kept
  at_done_script texts None asks budget_is done cause =
      absurd (ends_unknown seen.files ended.kept Done (λ e. cc) (λ e. cc) cause)
  at_done_script texts (Some budget) asks budget_is done cause =
      from_script (ends_living seen.files texts budget ended.kept Done cause)
    where
      from_script : EndsLiving seen.files texts budget ended.kept Done → WritesTranscript seen texts ended.kept
      from_script (inl stops) = absurd (stops_told seen.files (live_inputs texts) Done stops refl)
      from_script (inr (inl is)) = absurd (done_no_memory is)
      from_script (inr (inr lives)) =
          written_script texts budget asks budget_is done
          (subst (EndsLive seen.files.holds budget texts ended.kept) (sym done) lives)

  -- a script's run that is done writes its transcript, and the certificates where a file is named
  script_written : (texts : LiveTexts) → IsLiveQuery words texts → ended.status ≡ Done
      → WritesTranscript seen texts ended.kept
  script_written texts asks done =
      let P : Status → Type 0 =
      λ e. EndsCommand seen.files (live_row seen.files.holds (budget_of texts.budget) texts) ended.kept e in
      at_done_script texts (budget_of texts.budget) asks refl done
      (subst P done (at_script texts (budget_of texts.budget) asks refl (λ e. let x : Done ≡ WriteFault =
      sym done ∙ e in cc)))

  -- ---- large inputs

  -- at a large input's run, the row is that of what the words ask for
  at_bench : (texts : BenchTexts) (by : Option LargeInput) → IsBenchQuery words texts → large_by texts ≡ by
      → ended.status ≢ WriteFault → EndsCommand seen.files (bench_row by) ended.kept ended.status
  at_bench texts by asks large_is whole =
      let P : Request → Type 0 = λ r. EndsCommand seen.files (row_of seen.files.holds r) ended.kept ended.status in
      let Q : Option LargeInput → Type 0 = λ o. EndsCommand seen.files (bench_row o) ended.kept ended.status in
      subst Q large_is (subst P (requested_input words texts asks) (ends whole))

  complete_bench : (texts : BenchTexts) (large : LargeInput) → IsBenchQuery words texts
      → large_by texts ≡ Some large → ended.status ≢ WriteFault → IsDoneOrMemory ended.status
  complete_bench texts large asks large_is whole =
      large_done seen.files large ended.kept ended.status (at_bench texts (Some large) asks large_is whole)

  -- words that ask for no large input are refused
  no_large : (texts : BenchTexts) → IsBenchQuery words texts → large_by texts ≡ None → RefusesWords ended.status
  no_large texts asks none =
      refuses_words seen.files ended.kept ended.status (λ whole. at_bench texts None asks none whole)

  written_large : (texts : BenchTexts) (large : LargeInput) → IsBenchQuery words texts → large_by texts ≡ Some large
      → ended.status ≡ Done → EndsLarge large ended.kept Done → WritesSummary seen texts ended.kept
  written_large texts large asks large_is done runs =
      let both = run.whole (λ e. let x : Done ≡ WriteFault = sym done ∙ e in cc) in
      let status : run.ending.status ≡ Done = sym both.0 ∙ done in
      let Says : Row → Type 0 = HasTexts run.ending in
      let P : Request → Type 0 = λ r. Says (row_of seen.files.holds r) in
      let Q : Option LargeInput → Type 0 = λ o. Says (bench_row o) in
      let says = subst Q large_is
      (subst P (requested_input words texts asks) (run.decided.text, run.decided.files)) in
      let text : text_bytes run.ending.text ≡ summary large.arguments large.seed =
      said_done run.ending.status (λ t. t ≡ summary large.arguments large.seed) (text_bytes run.ending.text) status
      says.0 in
      let files : map file_text run.ending.files ≡ [] =
      are_beside (common_text run.ending.status) ([]) (map file_text run.ending.files) says.1
      ∙ ap (λ e. files_beside (common_text e) []) status in
      record {
        large = large;
        large_is = large_is;
        run = runs.run;
        keeps = ap (λ (k : Transcript). k.script) runs.keeps;
        is = runs.is;
        text = subst (Appends seen.before.contents seen.after.contents) text both.1.text;
        no_file = subst (λ list. WritesFiles list seen.before.holds seen.after.holds) files both.1.files;
      }

  at_done_large : (texts : BenchTexts) (by : Option LargeInput) → IsBenchQuery words texts → large_by texts ≡ by
      → ended.status ≡ Done → EndsCommand seen.files (bench_row by) ended.kept Done
      → WritesSummary seen texts ended.kept
  at_done_large texts None asks large_is done cause =
      absurd (ends_unknown seen.files ended.kept Done (λ e. cc) (λ e. cc) cause)
  at_done_large texts (Some large) asks large_is done cause =
      written_large texts large asks large_is done (ends_large seen.files large ended.kept cause)

  -- a large input's run that is done writes its summary
  summary_written : (texts : BenchTexts) → IsBenchQuery words texts → ended.status ≡ Done
      → WritesSummary seen texts ended.kept
  summary_written texts asks done =
      let P : Status → Type 0 = EndsCommand seen.files (bench_row (large_by texts)) ended.kept in
      at_done_large texts (large_by texts) asks refl done
      (subst P done (at_bench texts (large_by texts) asks refl (λ e. let x : Done ≡ WriteFault = sym done ∙ e in cc)))

  -- ---- queries by names

  -- at a query by names, the row is that of what the words ask
  at_names : (texts : NamesTexts) (by : Option Naming) → IsNamesQuery words texts → naming_by texts ≡ by
      → ended.status ≢ WriteFault
      → EndsCommand seen.files (names_row seen.files.holds by texts) ended.kept ended.status
  at_names texts by asks naming_is whole =
      let P : Request → Type 0 = λ r. EndsCommand seen.files (row_of seen.files.holds r) ended.kept ended.status in
      let Q : Option Naming → Type 0 =
      λ o. EndsCommand seen.files (names_row seen.files.holds o texts) ended.kept ended.status in
      subst Q naming_is (subst P (requested_names words texts asks) (ends whole))

  asks_on : (texts : NamesTexts) (naming : Naming) → IsNamesQuery words texts → naming_by texts ≡ Some naming
      → ended.status ≢ WriteFault → EndsAsking seen.files texts naming ended.kept ended.status
  asks_on texts naming asks naming_is whole =
      ends_asking seen.files texts naming ended.kept ended.status (at_names texts (Some naming) asks naming_is whole)

  complete_named : (texts : NamesTexts) (naming : Naming) (names : List (List ℕ)) (f : Af)
      → NamesContents seen.files words texts naming names f
      → IsNamesEnd names f naming texts.name ended.kept ended.status
  complete_named texts naming names f contents = ⊎_elim
      (λ broken. let P : Status → Type 0 = IsNamesEnd names f naming texts.name ended.kept in subst P (sym broken) tt)
      (λ whole. ends_names seen.files words texts naming names f contents ended.kept ended.status
      (asks_on texts naming contents.asks contents.naming_is whole)) (write_fault_or ended.status)

  -- a query by names that there isn't is refused
  no_named : (texts : NamesTexts) → IsNamesQuery words texts → naming_by texts ≡ None → RefusesWords ended.status
  no_named texts asks none =
      refuses_words seen.files ended.kept ended.status (λ whole. at_names texts None asks none whole)

  written_named : (texts : NamesTexts) (naming : Naming) → IsNamesQuery words texts → naming_by texts ≡ Some naming
      → ended.status ≡ Done → EndsNamed (seen.files.holds texts.file) naming texts.name ended.kept ended.status
      → WritesNamed seen texts
  written_named texts naming asks naming_is done named =
      let both = run.whole (λ e. let x : Done ≡ WriteFault = sym done ∙ e in cc) in
      let status : run.ending.status ≡ Done = sym both.0 ∙ done in
      let Says : Row → Type 0 = HasTexts run.ending in
      let P : Request → Type 0 = λ r. Says (row_of seen.files.holds r) in
      let Q : Option Naming → Type 0 = λ o. Says (names_row seen.files.holds o texts) in
      let says = subst Q naming_is
      (subst P (requested_names words texts asks) (run.decided.text, run.decided.files)) in
      let said : SaysNamed (seen.files.holds texts.file) naming texts.name run.ending.kept (text_bytes run.ending.text) =
      said_done run.ending.status (SaysNamed (seen.files.holds texts.file) naming texts.name run.ending.kept)
      (text_bytes run.ending.text) status says.0 in
      let keeps : run.ending.kept.session ≡ Some named.session =
      ap (λ (k : Transcript). k.session) (sym run.kept ∙ named.keeps) in
      let same : named.session ≡ said.session = some_is (sym keeps ∙ said.keeps) in
      let answers = said.answers.answers in
      let ends_so : Done ≡ status_of said.session.reply =
      sym done ∙ named.ends ∙ ap (λ (s : KeptSession). status_of s.reply) same in
      let told = done_reply (af answers.framework) (solving_of naming answers.asked) said.session answers.is ends_so in
      let text = answers.text_is ∙ ap (named_reply answers.names) told.is in
      let files : map file_text run.ending.files ≡ certificate_files texts.certificate told.reply.certificate =
      are_beside (common_text run.ending.status) (session_files texts.certificate run.ending.kept.session) (map file_text run.ending.files) says.1
      ∙ session_files_is run.ending.status texts.certificate run.ending.kept.session said.session told.reply status
      said.keeps told.is in
      record {
        naming = naming;
        naming_is = naming_is;
        names = answers.names;
        framework = answers.framework;
        of_framework = record { bytes = said.answers.bytes; has = said.answers.has; reads = answers.reads };
        one_to_one = answers.one_to_one;
        asked = answers.asked;
        asks = answers.asks;
        reply = told.reply;
        replies = told.replies;
        text = subst (Appends seen.before.contents seen.after.contents) text both.1.text;
        files = subst (λ list. WritesFiles list seen.before.holds seen.after.holds) files both.1.files;
      }

  at_done_named : (texts : NamesTexts) (by : Option Naming) → IsNamesQuery words texts → naming_by texts ≡ by
      → ended.status ≡ Done → EndsCommand seen.files (names_row seen.files.holds by texts) ended.kept Done
      → WritesNamed seen texts
  at_done_named texts None asks naming_is done cause =
      absurd (ends_unknown seen.files ended.kept Done (λ e. cc) (λ e. cc) cause)
  at_done_named texts (Some naming) asks naming_is done cause =
      from_asking (ends_asking seen.files texts naming ended.kept Done cause)
    where
      from_asking : EndsAsking seen.files texts naming ended.kept Done → WritesNamed seen texts
      from_asking (inl stops) = absurd stops
      from_asking (inr (inl is)) = absurd (done_no_memory is)
      from_asking (inr (inr (inl named))) =
          written_named texts naming asks naming_is done
          (subst (EndsNamed (seen.files.holds texts.file) naming texts.name ended.kept) (sym done) named)
      from_asking (inr (inr (inr unnamed))) =
          absurd (let e : Done ≡ InputRefused UnknownName = unnamed.ends in cc)

  -- a query by names that is done writes a right answer by names, and an accepted certificate where a file is named
  named_written : (texts : NamesTexts) → IsNamesQuery words texts → ended.status ≡ Done → WritesNamed seen texts
  named_written texts asks done =
      let P : Status → Type 0 =
      λ e. EndsCommand seen.files (names_row seen.files.holds (naming_by texts) texts) ended.kept e in
      at_done_named texts (naming_by texts) asks refl done
      (subst P done (at_names texts (naming_by texts) asks refl (λ e. let x : Done ≡ WriteFault = sym done ∙ e in cc)))

  -- ---- texts with numbers

  -- at a text with numbers, the row is that of its format
  at_af : (texts : AfTexts) (by : Option NameFormat) → IsAfQuery words texts → format_named texts.kind ≡ by
      → ended.status ≢ WriteFault
      → EndsCommand seen.files (af_row seen.files.holds by texts) ended.kept ended.status
  at_af texts by asks format_is whole =
      let P : Request → Type 0 = λ r. EndsCommand seen.files (row_of seen.files.holds r) ended.kept ended.status in
      let Q : Option NameFormat → Type 0 =
      λ o. EndsCommand seen.files (af_row seen.files.holds o texts) ended.kept ended.status in
      subst Q format_is (subst P (requested_af words texts asks) (ends whole))

  complete_numbered : (texts : AfTexts) (format : NameFormat) (names : List (List ℕ)) (f : Af)
      → NumbersContents seen.files words texts format names f → ended.status ≢ WriteFault
      → IsDoneOrMemory ended.status
  complete_numbered texts format names f contents whole =
      af_is_done seen.files words texts format names f ended.kept ended.status contents
      (ends_numbering seen.files texts format ended.kept ended.status
      (at_af texts (Some format) contents.asks contents.format_is whole))

  -- a format that there isn't is refused
  no_numbered : (texts : AfTexts) → IsAfQuery words texts → format_named texts.kind ≡ None → RefusesWords ended.status
  no_numbered texts asks none =
      refuses_words seen.files ended.kept ended.status (λ whole. at_af texts None asks none whole)

  written_numbered : (texts : AfTexts) (format : NameFormat) → IsAfQuery words texts
      → format_named texts.kind ≡ Some format → ended.status ≡ Done → WritesNumbered seen texts
  written_numbered texts format asks format_is done =
      let both = run.whole (λ e. let x : Done ≡ WriteFault = sym done ∙ e in cc) in
      let status : run.ending.status ≡ Done = sym both.0 ∙ done in
      let Says : Row → Type 0 = HasTexts run.ending in
      let P : Request → Type 0 = λ r. Says (row_of seen.files.holds r) in
      let Q : Option NameFormat → Type 0 = λ o. Says (af_row seen.files.holds o texts) in
      let says = subst Q format_is (subst P (requested_af words texts asks) (run.decided.text, run.decided.files)) in
      let files : map file_text run.ending.files ≡ [] =
      are_beside (common_text run.ending.status) ([]) (map file_text run.ending.files) says.1
      ∙ ap (λ e. files_beside (common_text e) []) status in
      record {
        format = format;
        format_is = format_is;
        text = text_bytes run.ending.text;
        is = said_done run.ending.status (IsNumberedOf (seen.files.holds texts.file) format) (text_bytes run.ending.text)
            status says.0;
        gains = both.1.text;
        no_file = subst (λ list. WritesFiles list seen.before.holds seen.after.holds) files both.1.files;
      }

  at_done_numbered : (texts : AfTexts) (by : Option NameFormat) → IsAfQuery words texts → format_named texts.kind ≡ by
      → ended.status ≡ Done → EndsCommand seen.files (af_row seen.files.holds by texts) ended.kept Done
      → WritesNumbered seen texts
  at_done_numbered texts None asks format_is done cause =
      absurd (ends_unknown seen.files ended.kept Done (λ e. cc) (λ e. cc) cause)
  at_done_numbered texts (Some format) asks format_is done cause = written_numbered texts format asks format_is done

  -- a text with numbers that is done is written
  numbered_written : (texts : AfTexts) → IsAfQuery words texts → ended.status ≡ Done → WritesNumbered seen texts
  numbered_written texts asks done =
      let P : Status → Type 0 =
      λ e. EndsCommand seen.files (af_row seen.files.holds (format_named texts.kind) texts) ended.kept e in
      at_done_numbered texts (format_named texts.kind) asks refl done
      (subst P done (at_af texts (format_named texts.kind) asks refl (λ e. let x : Done ≡ WriteFault =
      sym done ∙ e in cc)))

  -- ---- texts with names

  -- how a command on a file in this format may end
  in_format : (format : NameFormat) (file bytes : List ℕ) → NamedBytes seen.files words format file bytes
      → ended.status ≢ WriteFault → EndsInFormat seen.files format file ended.status
  in_format format file bytes asks whole = ⊎_elim
      (λ named. subst (λ path. EndsInFormat seen.files format path ended.status) named.file_is
      (subst (λ form. EndsInFormat seen.files form named.texts.file ended.status) named.format_is
      (asking_in seen.files named.texts named.naming ended.kept ended.status
      (asks_on named.texts named.naming named.asks named.naming_is whole))))
      (λ numbered. subst (λ path. EndsInFormat seen.files format path ended.status) numbered.file_is
      (numbering_in seen.files numbered.texts format ended.kept ended.status
      (ends_numbering seen.files numbered.texts format ended.kept ended.status
      (at_af numbered.texts (Some format) numbered.asks numbered.format_is whole))))
      asks.asks

  faulty_named : (format : NameFormat) (file bytes : List ℕ) → NamedBytes seen.files words format file bytes
      → IsFaultyNamed format bytes → length bytes ≤ MAX_INPUT → RefusesNamed format bytes ended.status
  faulty_named format file bytes asks bad short = ⊎_elim
      (λ broken. let P : Status → Type 0 = RefusesNamed format bytes in subst P (sym broken) tt)
      (λ whole. refuses_named seen.files format file bytes asks.known
      (λ h. ⊎_elim (λ served. h.unserved served) (λ uncounted. uncounted h.counted) asks.no_fault) ended.status bad short
      (in_format format file bytes asks whole)) (write_fault_or ended.status)

  long_named : (format : NameFormat) (file bytes : List ℕ) → NamedBytes seen.files words format file bytes
      → MAX_INPUT < length bytes → RefusesLength ended.status
  long_named format file bytes asks long = ⊎_elim
      (λ broken. subst RefusesLength (sym broken) tt)
      (λ whole. refuses_long_names seen.files format file bytes asks.known
      (λ h. ⊎_elim (λ served. h.unserved served) (λ uncounted. uncounted h.counted) asks.no_fault) ended.status long
      (in_format format file bytes asks whole)) (write_fault_or ended.status)

  -- ---- refutations

  at_lrat : (texts : LratTexts) → IsLratQuery words texts → ended.status ≢ WriteFault
      → EndsCommand seen.files (lrat_row seen.files.holds texts) ended.kept ended.status
  at_lrat texts asks whole =
      let P : Request → Type 0 = λ r. EndsCommand seen.files (row_of seen.files.holds r) ended.kept ended.status in
      subst P (requested_lrat words texts asks) (ends whole)

  -- where a check of a refutation is done, the CNF has no model
  unsatisfiable : (texts : LratTexts) → IsLratQuery words texts → ended.status ≡ Done
      → IsUnsatisfiableOf (seen.files.holds texts.cnf)
  unsatisfiable texts asks done =
      let P : Status → Type 0 = EndsCommand seen.files (lrat_row seen.files.holds texts) ended.kept in
      done_unsatisfiable seen.files texts ended.kept
      (subst P done (at_lrat texts asks (λ e. let x : Done ≡ WriteFault = sym done ∙ e in cc)))

  complete_refutation : (texts : LratTexts) (f : Formula) (bytes : List ℕ)
      → LratContents seen.files words texts f bytes → IsLratEnd f bytes ended.status
  complete_refutation texts f bytes contents = ⊎_elim
      (λ broken. let P : Status → Type 0 = IsLratEnd f bytes in subst P (sym broken) tt)
      (λ whole. ends_lrat seen.files words texts f bytes contents ended.kept ended.status
      (at_lrat texts contents.asks whole)) (write_fault_or ended.status)

  faulty_formula : (texts : LratTexts) (bytes other : List ℕ) → CnfBytes seen.files words texts bytes other
      → IsFaultyCnf bytes → length bytes ≤ MAX_INPUT → RefusesBytes OfCnf bytes ended.status
  faulty_formula texts bytes other asks bad short = ⊎_elim
      (λ broken. let P : Status → Type 0 = RefusesBytes OfCnf bytes in subst P (sym broken) tt)
      (λ whole. refuses_cnf seen.files words texts bytes other asks ended.kept ended.status bad short
      (at_lrat texts asks.asks whole)) (write_fault_or ended.status)

  long_formula : (texts : LratTexts) (bytes other : List ℕ) → CnfBytes seen.files words texts bytes other
      → MAX_INPUT < length bytes → RefusesLength ended.status
  long_formula texts bytes other asks long = ⊎_elim
      (λ broken. subst RefusesLength (sym broken) tt)
      (λ whole. refuses_long_cnf seen.files words texts bytes other asks ended.kept ended.status long
      (at_lrat texts asks.asks whole)) (write_fault_or ended.status)

  -- ---- exports

  at_export : (texts : ExportTexts) (by : Option Exporting) → IsExportQuery words texts → exporting_by texts ≡ by
      → ended.status ≢ WriteFault
      → EndsCommand seen.files (export_row seen.files.holds by texts) ended.kept ended.status
  at_export texts by asks wanted_is whole =
      let P : Request → Type 0 = λ r. EndsCommand seen.files (row_of seen.files.holds r) ended.kept ended.status in
      let Q : Option Exporting → Type 0 =
      λ o. EndsCommand seen.files (export_row seen.files.holds o texts) ended.kept ended.status in
      subst Q wanted_is (subst P (requested_export words texts asks) (ends whole))

  -- an export that is done has written the texts
  export_written : (texts : ExportTexts) → IsExportQuery words texts → ended.status ≡ Done → WritesExported seen texts
  export_written texts asks done =
      let broken : ended.status ≢ WriteFault = λ e. let x : Done ≡ WriteFault = sym done ∙ e in cc in
      let both = run.whole broken in
      let P : Request → Type 0 = λ r.
      AreFiles (common_text run.ending.status) ((row_of seen.files.holds r).Writes run.ending.kept run.ending.status
      (text_bytes run.ending.text)) (map file_text run.ending.files) in
      export_writes seen texts (exporting_by texts) run.ending ended.kept refl (sym both.0 ∙ done)
      (subst (EndsCommand seen.files (export_row seen.files.holds (exporting_by texts) texts) ended.kept) done
      (at_export texts (exporting_by texts) asks refl broken))
      (subst P (requested_export words texts asks) run.decided.files) both.1.text both.1.files

  complete_export : (texts : ExportTexts) (wanted : Exporting) (f : AnyFramework) (answer : Answer)
      (certificate : Certificate) → ExportContents seen.files words texts wanted f answer certificate
      → IsExportEnd f wanted answer certificate ended.status
  complete_export texts wanted f answer certificate contents = ⊎_elim
      (λ broken. let P : Status → Type 0 = IsExportEnd f wanted answer certificate in subst P (sym broken) tt)
      (λ whole. ends_export seen.files words texts wanted f answer certificate contents ended.kept ended.status
      (at_export texts (Some wanted) contents.query contents.asks whole)) (write_fault_or ended.status)

  -- a number of which an accepted certificate has no refutation is refused
  no_refutation : (texts : ExportTexts) (wanted : Exporting) (f : AnyFramework) (answer : Answer)
      (certificate : Certificate) → ExportContents seen.files words texts wanted f answer certificate
      → CheckEnds f wanted.query answer certificate Done → HasNoRefutation certificate wanted.number
      → RefusesNumber wanted.number ended.status
  no_refutation texts wanted f answer certificate contents accepts none =
      refuses_number f wanted answer certificate ended.status accepts none
      (complete_export texts wanted f answer certificate contents)

  -- words that ask for no refutation are refused
  no_export : (texts : ExportTexts) → IsExportQuery words texts → exporting_by texts ≡ None
      → RefusesWords ended.status
  no_export texts asks none =
      refuses_words seen.files ended.kept ended.status (λ whole. at_export texts None asks none whole)

  -- ---- all of it

  pub promises : Promises words seen ended
  promises = record {
    right = right_session;
    unknown = spent;
    full = filled;
    solved = solved_written;
    transcript = right_transcript;
    live = script_written;
    bench = summary_written;
    version = version_is_done;
    problems = problems_told;
    complete = complete;
    complete_script = complete_script;
    complete_bench = complete_bench;
    usage = usage;
    no_query = no_query;
    faulty = faulty;
    too_long = too_long;
    no_budget = no_budget;
    no_large = no_large;
    faulty_script = faulty_script;
    long_script = long_script;
    accepted = accepted;
    checked = checked;
    unasked = unasked;
    named = named_written;
    complete_names = complete_named;
    no_naming = no_named;
    numbered = numbered_written;
    complete_af = complete_numbered;
    no_format = no_numbered;
    faulty_names = faulty_named;
    long_names = long_named;
    verified = unsatisfiable;
    complete_lrat = complete_refutation;
    faulty_cnf = faulty_formula;
    long_cnf = long_formula;
    exported = export_written;
    complete_export = complete_export;
    no_refutation = no_refutation;
    no_export = no_export;
    write_fault = write_fault;
    output_fault = output_fails;
    other_files = other_files;
    untouched = untouched;
    no_write = no_write;
    no_other_read = other_counts;
  }
