-- Endings that a row of the table has.
use Rattle.std.proofs.Common.{◌≡◌, ◌≢◌, ◌∙◌, ◌⊎◌, ℕ, List, [], ◌∷◌, refl, sym, ap, subst, inl, inr, arith, Option, None}
use Rattle.std.proofs.Common.{Some, Result, Ok, Err, codes, map}
use Rattle.std.specs.Prelude.{Contains, IfOk, IsTrue}
use Rattle.std.specs.Option.{unwrap_or}
use Rattle.lists.specs.declared.memory.Memory.{Memory}
use Rattle.argue_outside.specs.Outside.{KnownFile, OtherCountsKept}
use Rattle.argue_outside.specs.declared.Role.{Role}
use Rattle.argue_outside.specs.declared.Role.TheVariants as role
use Rattle.argue_words.specs.Words.{ExportTexts, AfTexts, CheckTexts, LiveTexts, NamesTexts, Request, SolveTexts}
use Rattle.argue_words.specs.Words.{version, problems, solving, checking, living, benching, by_name, numbering}
use Rattle.argue_words.specs.Words.{verifying, exporting, unknown, bench_texts, command_named, live_texts, request_of}
use Rattle.argue_words.specs.Words.{requested}
use Rattle.argue_words.proofs.RequestLaws.{input_requested, none_requested, script_requested}
use Rattle.argue_words.proofs.RequestNames.{no_name_in}
use Rattle.argue_words.specs.declared.words.CommandName.TheVariants as command
use Rattle.argue_words.specs.declared.words.Command.{Command}
use Rattle.argue_words.specs.declared.words.Command.TheVariants.{Bench, Live}
use Rattle.argue_words.specs.declared.words.BenchWords.{BenchWords}
use Rattle.argue_words.specs.declared.words.LiveWords.{LiveWords}
use Rattle.argue_commands.specs.Inputs.{EndsReading, Input, Reading, StopsAtFirst, input, named_input}
use Rattle.argue_commands.proofs.InputLemmas.{follow_none, one_in, no_read_fault}
use Rattle.argue_program.specs.Rows.{CountsReads, EndsCommand, EndsSession, IsEndingOf, IsTextOf, Row, af_row}
use Rattle.argue_program.specs.Rows.{bench_row, export_row, check_row, files_beside, live_row, names_row, nothing_kept}
use Rattle.argue_program.specs.Rows.{row_of, session_files, reply_text, session_text, solve_row, unknown_row}
use Rattle.apx_tgf.specs.declared.format.NameFormat.{NameFormat}
use Rattle.lrat_commands.specs.Exporting.{exporting_by}
use Rattle.lrat_commands.specs.declared.exporting.Exporting.{Exporting}
use Rattle.named_commands.specs.Namings.{AnswersNamedFile, EndsNaming, format_named, naming_by}
use Rattle.named_commands.specs.Numberings.{IsNumberedOf}
use Rattle.named_commands.specs.declared.naming.Naming.{Naming}
use Rattle.iccma_tasks.specs.Tasks.{Asked}
use Rattle.argue_commands.specs.Checks.{ChecksFiles, EndsChecking}
use Rattle.argue_program.specs.LargeInputs.{large_by}
use Rattle.argue_commands.specs.Queries.{asked_by, budget_of, solving_by}
use Rattle.argue_commands.specs.Solves.{IsSessionOn, status_of}
use Rattle.argue_program.specs.declared.large.LargeInput.{LargeInput}
use Rattle.argue_commands.specs.declared.query.Solving.{Solving}
use Rattle.argue_commands.specs.declared.ended.KeptSession.{KeptSession}
use Rattle.argue_commands.specs.declared.ended.Limit.TheVariants as bound
use Rattle.argue_commands.specs.declared.ended.Refusal.TheVariants.{Query, UnknownName}
use Rattle.bench_runs.specs.oracle_core.specs.declared.reply.AnswerStop.{AnswerStop}
use Rattle.bench_runs.specs.oracle_core.specs.declared.reply.AnswerStop.TheVariants as stop
use Rattle.bench_runs.specs.oracle_core.specs.declared.reply.Answered.{Answered}
use Rattle.argue_commands.specs.Replacing.{file_text}
use Rattle.argue_commands.specs.Texts.{IsRefusal, common_text, text_bytes}
use Rattle.argue_program.specs.declared.ending.Ending.{Ending}
use Rattle.argue_commands.specs.declared.ended.Status.{Status}
use Rattle.argue_commands.specs.declared.ended.Status.TheVariants.{Done, Usage, InputRefused, ReadFault, WriteFault}
use Rattle.argue_commands.specs.declared.ended.Status.TheVariants.{WantOfMemory, Unknown, Limit}
use Rattle.argue_program.specs.declared.ended.Transcript.{Transcript}
use Rattle.argue_program.proofs.FilesLemmas.{beside_are, none_beside}

-- ---- the text of an ending

-- the text that a status says itself
pub text_said : (said : Option (List ℕ)) (Says : List ℕ → Type 0) (text : List ℕ) → Some text ≡ said
    → IsTextOf said Says text
text_said said Says text is = let P : Option (List ℕ) → Type 0 = λ o. IsTextOf o Says text in subst P is refl

-- the text that it says itself, or else one of which P holds
pub text_told : (said : Option (List ℕ)) (Says : List ℕ → Type 0) (text other : List ℕ) → text ≡ unwrap_or said other
    → Says other → IsTextOf said Says text
text_told None Says text other is says = subst Says (sym is) says
text_told (Some line) Says text other is says = is

-- the same of a run that is done
pub text_done : (end : Status) (Says : List ℕ → Type 0) (text : List ℕ) → end ≡ Done → Says text
    → IsTextOf (common_text end) Says text
text_done end Says text done says =
    let P : Status → Type 0 = λ e. IsTextOf (common_text e) Says text in subst P (sym done) says

-- ---- a run that stopped

module _ (found : Reading) (row : Row) (ending : Ending) (end : Status) where
  stopped_cause : EndsCommand found row nothing_kept end → IsTrue row.takes_memory
      → (ending.status ≡ end) ⊎ ((ending.status ≡ WantOfMemory) × IsRefusal end)
      → EndsCommand found row nothing_kept ending.status
  stopped_cause cause takes (inl is) =
      let P : Status → Type 0 = EndsCommand found row nothing_kept in subst P (sym is) cause
  stopped_cause cause takes (inr memory) = inl (refl, inr (memory.0, takes))

  stopped_quiet : (((role : Role) → end ≢ ReadFault role) → found.new_count ≡ found.old_count)
      → (ending.status ≡ end) ⊎ ((ending.status ≡ WantOfMemory) × IsRefusal end)
      → ((role : Role) → ending.status ≢ ReadFault role) → found.new_count ≡ found.old_count
  stopped_quiet quiet (inl is) none = quiet (λ role e. none role (is ∙ e))
  stopped_quiet quiet (inr memory) none = quiet (no_read_fault end memory.1)

  -- a run that stopped with a status of its row, or wanted memory for the line that says so, ends as its row says
  pub IsEndingOf-stopped : EndsCommand found row nothing_kept end → IsTrue row.takes_memory
      → (ending.status ≡ end) ⊎ ((ending.status ≡ WantOfMemory) × IsRefusal end) → ending.kept ≡ nothing_kept
      → Some (text_bytes ending.text) ≡ common_text ending.status → ending.files ≡ [] → CountsReads found row end
      → IsEndingOf found row ending
  IsEndingOf-stopped cause takes is kept text none counts = record {
    cause =
        let P : Transcript → Type 0 = λ k. EndsCommand found row k ending.status in
        subst P (sym kept) (stopped_cause cause takes is);
    text = text_said (common_text ending.status) (row.Says ending.kept ending.status) (text_bytes ending.text) text;
    files = none_beside (common_text ending.status) (row.Writes ending.kept ending.status (text_bytes ending.text))
        (map file_text ending.files) (text_bytes ending.text) text (ap (map file_text) none);
    counts = record { quiet = stopped_quiet counts.quiet is; others = counts.others };
  }

-- ---- want of memory before the command is known

check_takes : (holds : List ℕ → KnownFile) (asked : Option Asked) (texts : CheckTexts)
    → IsTrue (check_row holds asked texts).takes_memory
check_takes holds None texts = refl
check_takes holds (Some asked) texts = refl

solve_takes : (holds : List ℕ → KnownFile) (query : Option Solving) (texts : SolveTexts)
    → IsTrue (solve_row holds query texts).takes_memory
solve_takes holds None texts = refl
solve_takes holds (Some query) texts = refl

live_takes : (holds : List ℕ → KnownFile) (budget : Option ℕ) (texts : LiveTexts)
    → IsTrue (live_row holds budget texts).takes_memory
live_takes holds None texts = refl
live_takes holds (Some budget) texts = refl

bench_takes : (large : Option LargeInput) → IsTrue (bench_row large).takes_memory
bench_takes None = refl
bench_takes (Some large) = refl

names_takes : (holds : List ℕ → KnownFile) (by : Option Naming) (texts : NamesTexts)
    → IsTrue (names_row holds by texts).takes_memory
names_takes holds None texts = refl
names_takes holds (Some naming) texts = refl

af_takes : (holds : List ℕ → KnownFile) (by : Option NameFormat) (texts : AfTexts)
    → IsTrue (af_row holds by texts).takes_memory
af_takes holds None texts = refl
af_takes holds (Some format) texts = refl

export_takes : (holds : List ℕ → KnownFile) (by : Option Exporting) (texts : ExportTexts)
    → IsTrue (export_row holds by texts).takes_memory
export_takes holds None texts = refl
export_takes holds (Some wanted) texts = refl

takes_unless : (holds : List ℕ → KnownFile) (words : List (List ℕ)) (request : Request) → requested words ≡ request
    → words ≢ []
    → IsTrue (row_of holds request).takes_memory
takes_unless holds words version is some = absurd (some (none_requested words is))
takes_unless holds words problems is some = refl
takes_unless holds words (solving texts) is some = solve_takes holds (solving_by texts) texts
takes_unless holds words (checking texts) is some = check_takes holds (asked_by texts.task texts.number) texts
takes_unless holds words (living texts) is some = live_takes holds (budget_of texts.budget) texts
takes_unless holds words (benching texts) is some = bench_takes (large_by texts)
takes_unless holds words (by_name texts) is some = names_takes holds (naming_by texts) texts
takes_unless holds words (numbering texts) is some = af_takes holds (format_named texts.kind) texts
takes_unless holds words (verifying texts) is some = refl
takes_unless holds words (exporting texts) is some = export_takes holds (exporting_by texts) texts
takes_unless holds words unknown is some = refl

-- where there are words, the command that they ask for takes memory
pub takes_memory : (holds : List ℕ → KnownFile) (words : List (List ℕ)) → words ≢ []
    → IsTrue (row_of holds (requested words)).takes_memory
takes_memory holds words some = takes_unless holds words (requested words) refl some

-- words whose first is neither `live` nor `bench` ask for no threads
pub wants_no_script : (words : List (List ℕ)) (c : Command) → command_named words ≢ Some command.Live
    → request_of c ≡ requested words → (texts : LiveWords) → c ≢ Live texts
wants_no_script words c other asks texts is =
    let query = script_requested words (live_texts texts) (sym asks ∙ ap request_of is) in
    no_name_in words query.rest command.Live other query.words_are

pub wants_no_large : (words : List (List ℕ)) (c : Command) → command_named words ≢ Some command.Bench
    → request_of c ≡ requested words → (texts : BenchWords) → c ≢ Bench texts
wants_no_large words c other asks texts is =
    let query = input_requested words (bench_texts texts) (sym asks ∙ ap request_of is) in
    no_name_in words query.rest command.Bench other query.words_are

-- the cause of want of memory in a row that takes any
pub EndsCommand-memory : (found : Reading) (row : Row) → IsTrue row.takes_memory
    → EndsCommand found row nothing_kept WantOfMemory
EndsCommand-memory found row takes = inl (refl, inr (refl, takes))

-- no count rose
pub CountsReads-none : (found : Reading) (row : Row) (end : Status) → found.new_count ≡ found.old_count
    → CountsReads found row end
CountsReads-none found row end same =
    record { quiet = λ none. same; others = λ role none. ap (λ count. count role) same }

-- ---- checks

abbrev OtherRolesKept : (Role → ℕ) → (Role → ℕ) → Type 0
OtherRolesKept old new = (other : Role) → other ≢ role.Framework 1 → other ≢ role.Answer → other ≢ role.Certificate
    → new other ≡ old other

check_counts : (found : Reading) (asked : Asked) (texts : CheckTexts) (end : Status)
    → (((of : Role) → end ≢ ReadFault of) → found.new_count ≡ found.old_count)
    → OtherRolesKept found.old_count found.new_count → CountsReads found (check_row found.holds (Some asked) texts) end
check_counts found asked texts end quiet others = record {
  quiet = quiet;
  others = λ other none. others other
      (none (input (role.Framework 1) texts.file) (0, omega arith, refl))
      (none (input role.Answer texts.answer) (1, omega arith, refl))
      (none (input role.Certificate texts.certificate) (2, omega arith, refl));
}

check_cause : (found : Reading) (asked : Asked) (texts : CheckTexts) (end : Status) → EndsChecking found asked texts end
    → EndsCommand found (check_row found.holds (Some asked) texts) nothing_kept end
check_cause found asked texts end (inl stops) = inl (refl, inl stops)
check_cause found asked texts end (inr (inl memory)) = inl (refl, inr (memory, refl))
check_cause found asked texts end (inr (inr checks)) = inr (refl, checks)

-- a check that stopped ends as its row says
pub check_stopped : (found : Reading) (by : Option Asked) (asked : Asked) (texts : CheckTexts) (ending : Ending)
    (end : Status) → by ≡ Some asked → EndsChecking found asked texts end
    → (((of : Role) → end ≢ ReadFault of) → found.new_count ≡ found.old_count)
    → OtherRolesKept found.old_count found.new_count
    → (ending.status ≡ end) ⊎ ((ending.status ≡ WantOfMemory) × IsRefusal end) → ending.kept ≡ nothing_kept
    → Some (text_bytes ending.text) ≡ common_text ending.status → ending.files ≡ []
    → IsEndingOf found (check_row found.holds by texts) ending
check_stopped found by asked texts ending end is ends quiet others status kept text files =
    let row = check_row found.holds (Some asked) texts in
    let P : Option Asked → Type 0 = λ o. IsEndingOf found (check_row found.holds o texts) ending in
    subst P (sym is)
    (IsEndingOf-stopped found row ending end (check_cause found asked texts end ends) refl status kept text files
    (check_counts found asked texts end quiet others))

-- a check that is done accepted the certificate
pub check_done : (found : Reading) (by : Option Asked) (asked : Asked) (texts : CheckTexts) (ending : Ending)
    → by ≡ Some asked → ChecksFiles found.holds asked texts Done → found.new_count ≡ found.old_count
    → ending.status ≡ Done → ending.kept ≡ nothing_kept → text_bytes ending.text ≡ codes "ACCEPTED\n"
    → ending.files ≡ [] → IsEndingOf found (check_row found.holds by texts) ending
check_done found by asked texts ending is checks quiet status kept text files =
    let P : Option Asked → Type 0 = λ o. IsEndingOf found (check_row found.holds o texts) ending in
    subst P (sym is) (record {
      cause = rw status (rw kept (inr (refl, checks)));
      text = text_done ending.status (λ t. t ≡ codes "ACCEPTED\n") (text_bytes ending.text) status text;
      files = rw status (rw files refl);
      counts = CountsReads-none found (check_row found.holds (Some asked) texts) ending.status quiet;
    })

-- words that ask no query are refused
pub check_unasked : (found : Reading) (by : Option Asked) (texts : CheckTexts) (ending : Ending) → by ≡ None
    → found.new_count ≡ found.old_count
    → (ending.status ≡ Usage) ⊎ ((ending.status ≡ WantOfMemory) × IsRefusal Usage) → ending.kept ≡ nothing_kept
    → Some (text_bytes ending.text) ≡ common_text ending.status → ending.files ≡ []
    → IsEndingOf found (check_row found.holds by texts) ending
check_unasked found by texts ending is quiet status kept text files =
    let P : Option Asked → Type 0 = λ o. IsEndingOf found (check_row found.holds o texts) ending in
    subst P (sym is)
    (IsEndingOf-stopped found unknown_row ending Usage (inr (refl, refl)) refl status kept text files
    (CountsReads-none found unknown_row Usage quiet))

-- ---- queries

-- an end of reading the framework is one of the query's row
solve_cause : (found : Reading) (query : Solving) (texts : SolveTexts) (end : Status)
    → EndsReading found (input (role.Framework 1) texts.file) end
    → EndsCommand found (solve_row found.holds (Some query) texts) nothing_kept end
solve_cause found query texts end (inl stops) = inl (refl, inl (inl (stops, follow_none found end)))
solve_cause found query texts end (inr memory) = inl (refl, inr (memory, refl))

-- faults are counted in the role of the one input, and only where it ends the run by one
solve_counts : (found : Reading) (query : Solving) (texts : SolveTexts) (end : Status)
    → (end ≢ ReadFault (role.Framework 1) → found.new_count ≡ found.old_count)
    → OtherCountsKept (role.Framework 1) found.old_count found.new_count
    → CountsReads found (solve_row found.holds (Some query) texts) end
solve_counts found query texts end quiet others = record {
  quiet = λ none. quiet (none (role.Framework 1));
  others = λ other none. others other
      (none (input (role.Framework 1) texts.file) (one_in (input (role.Framework 1) texts.file)));
}

module _ (found : Reading) (by : Option Solving) (query : Solving) (texts : SolveTexts) (ending : Ending)
    (is : by ≡ Some query) where
  abbrev IsEndingBy : Option Solving → Type 0
  IsEndingBy o = IsEndingOf found (solve_row found.holds o texts) ending

  -- a query that stopped ends as its row says
  pub solve_stopped : (end : Status) → EndsReading found (input (role.Framework 1) texts.file) end
      → (end ≢ ReadFault (role.Framework 1) → found.new_count ≡ found.old_count)
      → OtherCountsKept (role.Framework 1) found.old_count found.new_count
      → (ending.status ≡ end) ⊎ ((ending.status ≡ WantOfMemory) × IsRefusal end) → ending.kept ≡ nothing_kept
      → Some (text_bytes ending.text) ≡ common_text ending.status → ending.files ≡ []
      → IsEndingOf found (solve_row found.holds by texts) ending
  solve_stopped end ends quiet others status kept text files =
      subst IsEndingBy (sym is)
      (IsEndingOf-stopped found (solve_row found.holds (Some query) texts) ending end (solve_cause found query texts end ends)
      refl status kept text files (solve_counts found query texts end quiet others))

  -- a query that came to a session ends as its row says
  pub solve_session : (session : KeptSession) → IsSessionOn (found.holds texts.file) query session
      → found.new_count ≡ found.old_count → EndsSession session (reply_text session.reply) texts.certificate ending
      → IsEndingOf found (solve_row found.holds by texts) ending
  solve_session session on quiet ends =
      let keeps : ending.kept.session ≡ Some session = ap (λ (k : Transcript). k.session) ends.keeps in
      subst IsEndingBy (sym is) (record {
        cause = inr (record { session = session; keeps = ends.keeps; on = on; ends = ends.status });
        text = text_told (common_text ending.status) (λ t. t ≡ session_text ending.kept.session)
            (text_bytes ending.text) (reply_text session.reply) ends.text (sym (ap session_text keeps));
        files = beside_are (common_text ending.status) (session_files texts.certificate ending.kept.session)
            (map file_text ending.files)
            (ends.files ∙ ap (λ s. files_beside (common_text ending.status) (session_files texts.certificate s))
            (sym keeps));
        counts = CountsReads-none found (solve_row found.holds (Some query) texts) ending.status quiet;
      })

-- the ending of a session with this reply
pub ends_session : (session : KeptSession) (reply : Result Answered AnswerStop) (text : List ℕ) (name : Option (List ℕ))
    (ending : Result Ending Memory) → session.reply ≡ reply
    → IfOk ending (EndsSession (record { reply = reply; engine = session.engine }) text name)
    → IfOk ending (EndsSession session text name)
ends_session session reply text name ending is ends =
    let P : Result Answered AnswerStop → Type 0 =
    λ told. IfOk ending (EndsSession (record { reply = told; engine = session.engine }) text name) in
    subst P (sym is) ends

-- words that ask no query are refused
pub solve_unasked : (found : Reading) (by : Option Solving) (texts : SolveTexts) (ending : Ending) → by ≡ None
    → found.new_count ≡ found.old_count
    → (ending.status ≡ Usage) ⊎ ((ending.status ≡ WantOfMemory) × IsRefusal Usage) → ending.kept ≡ nothing_kept
    → Some (text_bytes ending.text) ≡ common_text ending.status → ending.files ≡ []
    → IsEndingOf found (solve_row found.holds by texts) ending
solve_unasked found by texts ending is quiet status kept text files =
    let P : Option Solving → Type 0 = λ o. IsEndingOf found (solve_row found.holds o texts) ending in
    subst P (sym is)
    (IsEndingOf-stopped found unknown_row ending Usage (inr (refl, refl)) refl status kept text files
    (CountsReads-none found unknown_row Usage quiet))

-- ---- frameworks whose arguments have names

-- faults are counted in the role of the one input, and only where it ends the run by one
named_counts : (found : Reading) (row : Row) (format : NameFormat) (file : List ℕ) (end : Status)
    → row.inputs ≡ named_input format file ∷ []
    → (end ≢ ReadFault (role.Framework 1) → found.new_count ≡ found.old_count)
    → OtherCountsKept (role.Framework 1) found.old_count found.new_count → CountsReads found row end
named_counts found row format file end are quiet others = record {
  quiet = λ none. quiet (none (role.Framework 1));
  others = λ other none. others other (none (named_input format file)
      (let P : List Input → Type 0 = λ list. Contains list (named_input format file) in
      subst P (sym are) (one_in (named_input format file))));
}

names_cause : (found : Reading) (naming : Naming) (texts : NamesTexts) (end : Status) → EndsNaming found naming texts end
    → EndsCommand found (names_row found.holds (Some naming) texts) nothing_kept end
names_cause found naming texts end (inl (inl stops)) = inl (refl, inl (inl (stops, follow_none found end)))
names_cause found naming texts end (inl (inr memory)) = inl (refl, inr (memory, refl))
names_cause found naming texts end (inr unnamed) =
    inr (inr (record { keeps = refl; asks = unnamed.1; ends = unnamed.0 }))

module _ (found : Reading) (by : Option Naming) (texts : NamesTexts) (ending : Ending) where
  abbrev IsNamesEnding : Option Naming → Type 0
  IsNamesEnding o = IsEndingOf found (names_row found.holds o texts) ending

  -- words that ask no query by names are refused
  pub names_unasked : by ≡ None → found.new_count ≡ found.old_count
      → (ending.status ≡ Usage) ⊎ ((ending.status ≡ WantOfMemory) × IsRefusal Usage) → ending.kept ≡ nothing_kept
      → Some (text_bytes ending.text) ≡ common_text ending.status → ending.files ≡ []
      → IsEndingOf found (names_row found.holds by texts) ending
  names_unasked is quiet status kept text files =
      subst IsNamesEnding (sym is)
      (IsEndingOf-stopped found unknown_row ending Usage (inr (refl, refl)) refl status kept text files
      (CountsReads-none found unknown_row Usage quiet))

  -- a query by names that stopped ends as its row says
  pub names_stopped : (naming : Naming) (end : Status) → by ≡ Some naming → EndsNaming found naming texts end
      → (end ≢ ReadFault (role.Framework 1) → found.new_count ≡ found.old_count)
      → OtherCountsKept (role.Framework 1) found.old_count found.new_count
      → (ending.status ≡ end) ⊎ ((ending.status ≡ WantOfMemory) × IsRefusal end) → ending.kept ≡ nothing_kept
      → Some (text_bytes ending.text) ≡ common_text ending.status → ending.files ≡ []
      → IsEndingOf found (names_row found.holds by texts) ending
  names_stopped naming end is ends quiet others status kept text files =
      let row = names_row found.holds (Some naming) texts in
      subst IsNamesEnding (sym is)
      (IsEndingOf-stopped found row ending end (names_cause found naming texts end ends) refl status kept text files
      (named_counts found row naming.format texts.file end refl quiet others))

  -- one that came to a session ends as its row says
  pub names_session : (naming : Naming) (session : KeptSession) (said : List ℕ) → by ≡ Some naming
      → AnswersNamedFile (found.holds texts.file) naming texts.name session said → found.new_count ≡ found.old_count
      → EndsSession session said texts.certificate ending → IsEndingOf found (names_row found.holds by texts) ending
  names_session naming session said is answers quiet ends =
      let keeps : ending.kept.session ≡ Some session = ap (λ (k : Transcript). k.session) ends.keeps in
      let row = names_row found.holds (Some naming) texts in
      subst IsNamesEnding (sym is) (record {
        cause = inr (inl (record {
          session = session;
          text = said;
          keeps = ends.keeps;
          answers = answers;
          ends = ends.status;
        }));
        text = text_told (common_text ending.status) (row.Says ending.kept ending.status) (text_bytes ending.text) said
            ends.text (record { session = session; keeps = keeps; answers = answers });
        files = beside_are (common_text ending.status) (session_files texts.certificate ending.kept.session)
            (map file_text ending.files)
            (ends.files ∙ ap (λ s. files_beside (common_text ending.status) (session_files texts.certificate s))
            (sym keeps));
        counts = CountsReads-none found row ending.status quiet;
      })

af_cause : (found : Reading) (format : NameFormat) (texts : AfTexts) (end : Status)
    → EndsReading found (named_input format texts.file) end
    → EndsCommand found (af_row found.holds (Some format) texts) nothing_kept end
af_cause found format texts end (inl stops) = inl (refl, inl (inl (stops, follow_none found end)))
af_cause found format texts end (inr memory) = inl (refl, inr (memory, refl))

module _ (found : Reading) (by : Option NameFormat) (texts : AfTexts) (ending : Ending) where
  abbrev IsAfEnding : Option NameFormat → Type 0
  IsAfEnding o = IsEndingOf found (af_row found.holds o texts) ending

  -- words whose format is none are refused
  pub af_unasked : by ≡ None → found.new_count ≡ found.old_count
      → (ending.status ≡ Usage) ⊎ ((ending.status ≡ WantOfMemory) × IsRefusal Usage) → ending.kept ≡ nothing_kept
      → Some (text_bytes ending.text) ≡ common_text ending.status → ending.files ≡ []
      → IsEndingOf found (af_row found.holds by texts) ending
  af_unasked is quiet status kept text files =
      subst IsAfEnding (sym is)
      (IsEndingOf-stopped found unknown_row ending Usage (inr (refl, refl)) refl status kept text files
      (CountsReads-none found unknown_row Usage quiet))

  -- a text with numbers that stopped ends as its row says
  pub af_stopped : (format : NameFormat) (end : Status) → by ≡ Some format
      → EndsReading found (named_input format texts.file) end
      → (end ≢ ReadFault (role.Framework 1) → found.new_count ≡ found.old_count)
      → OtherCountsKept (role.Framework 1) found.old_count found.new_count
      → (ending.status ≡ end) ⊎ ((ending.status ≡ WantOfMemory) × IsRefusal end) → ending.kept ≡ nothing_kept
      → Some (text_bytes ending.text) ≡ common_text ending.status → ending.files ≡ []
      → IsEndingOf found (af_row found.holds by texts) ending
  af_stopped format end is ends quiet others status kept text files =
      let row = af_row found.holds (Some format) texts in
      subst IsAfEnding (sym is)
      (IsEndingOf-stopped found row ending end (af_cause found format texts end ends) refl status kept text files
      (named_counts found row format texts.file end refl quiet others))

  -- one that is done has the text
  pub af_done : (format : NameFormat) (said : List ℕ) → by ≡ Some format
      → IsNumberedOf (found.holds texts.file) format said → found.new_count ≡ found.old_count
      → ending.status ≡ Done → ending.kept ≡ nothing_kept → text_bytes ending.text ≡ said → ending.files ≡ []
      → IsEndingOf found (af_row found.holds by texts) ending
  af_done format said is numbered quiet status kept text files =
      let row = af_row found.holds (Some format) texts in
      subst IsAfEnding (sym is) (record {
        cause = inr (record { text = said; keeps = kept; is = numbered; ends = status });
        text = text_done ending.status (row.Says ending.kept ending.status) (text_bytes ending.text) status
            (subst (IsNumberedOf (found.holds texts.file) format) (sym text) numbered);
        files = rw status (rw files refl);
        counts = CountsReads-none found row ending.status quiet;
      })

-- ---- no row ends with a write fault

no_reply_fault : (reply : Result Answered AnswerStop) → WriteFault ≢ status_of reply
no_reply_fault (Ok reply) ends = let e : WriteFault ≡ Done = ends in cc
no_reply_fault (Err (stop.Query fault)) ends = let e : WriteFault ≡ InputRefused (Query fault) = ends in cc
no_reply_fault (Err (stop.Spent count)) ends = let e : WriteFault ≡ Unknown = ends in cc
no_reply_fault (Err stop.TooMany) ends = let e : WriteFault ≡ Limit bound.Extensions = ends in cc
no_reply_fault (Err stop.LogFull) ends = let e : WriteFault ≡ Limit bound.Log = ends in cc
no_reply_fault (Err stop.Memory) ends = let e : WriteFault ≡ WantOfMemory = ends in cc

no_stop_fault : (found : Reading) (inputs : List Input) → ¬ StopsAtFirst found WriteFault inputs
no_stop_fault found [] stops = stops
no_stop_fault found (one ∷ more) (inl stops) = stops.0
no_stop_fault found (one ∷ more) (inr passes) = no_stop_fault found more passes.1

no_check_fault : (holds : List ℕ → KnownFile) (asked : Option Asked) (texts : CheckTexts) (kept : Transcript)
    → ¬ (check_row holds asked texts).Ends kept WriteFault
no_check_fault holds None texts kept unasked = let e : WriteFault ≡ Usage = unasked.1 in cc
no_check_fault holds (Some asked) texts kept checks = checks.1.ends

no_solve_fault : (holds : List ℕ → KnownFile) (query : Option Solving) (texts : SolveTexts) (kept : Transcript)
    → ¬ (solve_row holds query texts).Ends kept WriteFault
no_solve_fault holds None texts kept unasked = let e : WriteFault ≡ Usage = unasked.1 in cc
no_solve_fault holds (Some query) texts kept solved = no_reply_fault solved.session.reply solved.ends

no_live_fault : (holds : List ℕ → KnownFile) (budget : Option ℕ) (texts : LiveTexts) (kept : Transcript)
    → ¬ (live_row holds budget texts).Ends kept WriteFault
no_live_fault holds None texts kept unasked = let e : WriteFault ≡ Usage = unasked.1 in cc
no_live_fault holds (Some budget) texts kept lives = let e : WriteFault ≡ Done = lives.ends in cc

no_bench_fault : (large : Option LargeInput) (kept : Transcript) → ¬ (bench_row large).Ends kept WriteFault
no_bench_fault None kept unasked = let e : WriteFault ≡ Usage = unasked.1 in cc
no_bench_fault (Some large) kept runs = let e : WriteFault ≡ Done = runs.ends in cc

no_names_fault : (holds : List ℕ → KnownFile) (by : Option Naming) (texts : NamesTexts) (kept : Transcript)
    → ¬ (names_row holds by texts).Ends kept WriteFault
no_names_fault holds None texts kept unasked = let e : WriteFault ≡ Usage = unasked.1 in cc
no_names_fault holds (Some naming) texts kept (inl named) = no_reply_fault named.session.reply named.ends
no_names_fault holds (Some naming) texts kept (inr unnamed) =
    let e : WriteFault ≡ InputRefused UnknownName = unnamed.ends in cc

no_af_fault : (holds : List ℕ → KnownFile) (by : Option NameFormat) (texts : AfTexts) (kept : Transcript)
    → ¬ (af_row holds by texts).Ends kept WriteFault
no_af_fault holds None texts kept unasked = let e : WriteFault ≡ Usage = unasked.1 in cc
no_af_fault holds (Some format) texts kept numbered = let e : WriteFault ≡ Done = numbered.ends in cc

no_export_fault : (holds : List ℕ → KnownFile) (by : Option Exporting) (texts : ExportTexts) (kept : Transcript)
    → ¬ (export_row holds by texts).Ends kept WriteFault
no_export_fault holds None texts kept unasked = let e : WriteFault ≡ Usage = unasked.1 in cc
no_export_fault holds (Some wanted) texts kept exports = exports.1.ends

no_row_fault : (found : Reading) (holds : List ℕ → KnownFile) (request : Request) (kept : Transcript)
    → ¬ EndsCommand found (row_of holds request) kept WriteFault
no_row_fault found holds request kept (inl (nothing, inl stops)) =
    no_stop_fault found (row_of holds request).inputs stops
no_row_fault found holds request kept (inl (nothing, inr memory)) =
    let e : WriteFault ≡ WantOfMemory = memory.0 in cc
no_row_fault found holds version kept (inr done) = let e : WriteFault ≡ Done = done.1 in cc
no_row_fault found holds problems kept (inr done) = let e : WriteFault ≡ Done = done.1 in cc
no_row_fault found holds (solving texts) kept (inr ends) = no_solve_fault holds (solving_by texts) texts kept ends
no_row_fault found holds (checking texts) kept (inr ends) =
    no_check_fault holds (asked_by texts.task texts.number) texts kept ends
no_row_fault found holds (living texts) kept (inr ends) = no_live_fault holds (budget_of texts.budget) texts kept ends
no_row_fault found holds (benching texts) kept (inr ends) = no_bench_fault (large_by texts) kept ends
no_row_fault found holds (by_name texts) kept (inr ends) = no_names_fault holds (naming_by texts) texts kept ends
no_row_fault found holds (numbering texts) kept (inr ends) = no_af_fault holds (format_named texts.kind) texts kept ends
no_row_fault found holds (verifying texts) kept (inr ends) = ends.1.ends
no_row_fault found holds (exporting texts) kept (inr ends) = no_export_fault holds (exporting_by texts) texts kept ends
no_row_fault found holds unknown kept (inr unasked) = let e : WriteFault ≡ Usage = unasked.1 in cc

-- what is decided is no write fault
pub decides_no_fault : (found : Reading) (holds : List ℕ → KnownFile) (request : Request) (ending : Ending)
    → IsEndingOf found (row_of holds request) ending → ending.status ≢ WriteFault
decides_no_fault found holds request ending decided is =
    no_row_fault found holds request ending.kept
    (subst (EndsCommand found (row_of holds request) ending.kept) is decided.cause)
