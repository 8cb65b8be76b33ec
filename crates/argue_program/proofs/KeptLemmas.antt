-- What a run writes and keeps: files of other names, a session, a transcript.
use Rattle.std.proofs.Common.{◌≡◌, ◌≢◌, ◌∙◌, ◌⊎◌, ℕ, List, [], ◌∷◌, map, refl, sym, ap, subst, inl, inr, ⊎_elim, Option}
use Rattle.std.proofs.Common.{None, Some, Result, Ok, Err}
use Rattle.argue_outside.specs.Outside.{FaultCounted, KnownFile}
use Rattle.argue_outside.specs.declared.Role.{Role}
use Rattle.argue_words.specs.Words.{AfTexts, BenchTexts, CheckTexts, IsBenchQuery, IsLiveQuery, IsNamesQuery}
use Rattle.argue_words.specs.Words.{IsSolveQuery, LiveTexts, NamesTexts, Request, SolveTexts, version, problems}
use Rattle.argue_words.specs.Words.{solving, checking, ExportTexts, living, benching, by_name, numbering, verifying}
use Rattle.argue_words.specs.Words.{exporting, unknown, requested}
use Rattle.argue_words.proofs.RequestLaws.{export_requested_by, input_requested, names_requested_by, query_requested}
use Rattle.argue_words.proofs.RequestLaws.{script_requested}
use Rattle.apx_tgf.specs.declared.format.NameFormat.{NameFormat}
use Rattle.lrat_commands.specs.Exporting.{cnf_name, exported_files, exporting_by, lrat_name}
use Rattle.lrat_commands.specs.declared.exporting.Exporting.{Exporting}
use Rattle.named_commands.specs.Namings.{AnswersNamedFile, format_named, naming_by, solving_of}
use Rattle.named_commands.specs.declared.naming.Naming.{Naming}
use Rattle.argue_commands.specs.Inputs.{Reading}
use Rattle.argue_commands.specs.Replacing.{FileText, certificate_files, file_text, RefusesFile}
use Rattle.argue_commands.proofs.ReplacingLemmas.{HaveOtherNames}
use Rattle.argue_program.specs.Rows.{EndsCommand, IsEndingFor, IsEndingOf, af_row, bench_row, check_row}
use Rattle.argue_program.specs.Rows.{certificates_files, AreFiles, export_row, live_row, names_row, nothing_kept}
use Rattle.argue_program.specs.Rows.{reply_files, row_of, script_files, script_kept, session_files, solve_row}
use Rattle.iccma_tasks.specs.Tasks.{Asked}
use Rattle.argue_program.specs.LargeInputs.{large_by}
use Rattle.argue_commands.specs.Queries.{asked_by, budget_of, solving_by}
use Rattle.argue_program.specs.Scripts.{RunsScript}
use Rattle.semantics.specs.Frameworks.{af}
use Rattle.bench_runs.specs.Generator.{bench_framework}
use Rattle.bench_runs.specs.Scripts.{bench_script}
use Rattle.bench_runs.specs.declared.run.TheConstants.{BENCH_BUDGET}
use Rattle.bench_runs.specs.Transcripts.{IsTranscriptOf}
use Rattle.bench_runs.specs.declared.transcript.ScriptTranscript.{ScriptTranscript}
use Rattle.argue_commands.specs.Solves.{IsSessionOn}
use Rattle.argue_program.specs.declared.large.LargeInput.{LargeInput}
use Rattle.argue_commands.specs.declared.query.Solving.{Solving}
use Rattle.bench_runs.specs.oracle_core.specs.declared.reply.AnswerStop.{AnswerStop}
use Rattle.bench_runs.specs.oracle_core.specs.declared.reply.Answered.{Answered}
use Rattle.certificate_claims.specs.declared.certificate.Certificate.{Certificate}
use Rattle.argue_program.specs.Runs.{AsksLarge, AsksScript, AsksSession, AsksTranscript, IsRunOf, NamesCertificate}
use Rattle.argue_program.specs.Seen.{Seen}
use Rattle.argue_program.specs.Writing.{BreaksOff, IsWritten, Output}
use Rattle.argue_program.specs.declared.ending.Ending.{Ending}
use Rattle.argue_program.specs.declared.ended.Ended.{Ended}
use Rattle.argue_commands.specs.declared.ended.KeptSession.{KeptSession}
use Rattle.argue_commands.specs.declared.ended.Status.{Status}
use Rattle.argue_commands.specs.declared.ended.Status.TheVariants.{Done, Usage, InputRefused, ReadFault, WriteFault}
use Rattle.argue_commands.specs.declared.ended.Status.TheVariants.{WantOfMemory, Unknown, Limit, Rejected}
use Rattle.argue_program.specs.declared.ended.Transcript.{Transcript}
use Rattle.argue_commands.specs.Texts.{common_text, text_bytes}

-- ---- files of other names

pub some_is : {X : Type 0} {x y : X} → Some x ≡ Some y → x ≡ y
some_is e = cc

beside_other : (name : List ℕ) (said : Option (List ℕ)) (Writes : List FileText → Type 0) (files : List FileText)
    → ((list : List FileText) → Writes list → HaveOtherNames name list) → AreFiles said Writes files
    → HaveOtherNames name files
beside_other name None Writes files other are = other files are
beside_other name (Some text) Writes files other are = subst (HaveOtherNames name) (sym are) tt

certificate_other : (name : List ℕ) (named : Option (List ℕ)) (certificate : Certificate) → (named ≡ Some name → ⊥)
    → HaveOtherNames name (certificate_files named certificate)
certificate_other name None certificate other = tt
certificate_other name (Some file) certificate other = (λ e. other (ap Some (sym e)), tt)

reply_other : (name : List ℕ) (named : Option (List ℕ)) (reply : Result Answered AnswerStop)
    → (named ≡ Some name → ⊥) → HaveOtherNames name (reply_files named reply)
reply_other name named (Ok reply) other = certificate_other name named reply.certificate other
reply_other name named (Err why) other = tt

session_other : (name : List ℕ) (named : Option (List ℕ)) (session : Option KeptSession)
    → (named ≡ Some name → ⊥) → HaveOtherNames name (session_files named session)
session_other name named None other = tt
session_other name named (Some session) other = reply_other name named session.reply other

-- files that are those have other names where those have
of_those : (name : List ℕ) (those files : List FileText) → files ≡ those → HaveOtherNames name those
    → HaveOtherNames name files
of_those name those files is other = subst (HaveOtherNames name) (sym is) other

solve_other : (holds : List ℕ → KnownFile) (query : Option Solving) (texts : SolveTexts) (kept : Transcript)
    (end : Status) (text : List ℕ) (files : List FileText) (name : List ℕ) → (texts.certificate ≡ Some name → ⊥)
    → (solve_row holds query texts).Writes kept end text files → HaveOtherNames name files
solve_other holds None texts kept end text files name other are = of_those name [] files are tt
solve_other holds (Some query) texts kept end text files name other are =
    of_those name (session_files texts.certificate kept.session) files are
    (session_other name texts.certificate kept.session other)

check_other : (holds : List ℕ → KnownFile) (asked : Option Asked) (texts : CheckTexts) (kept : Transcript)
    (end : Status) (text : List ℕ) (files : List FileText) (name : List ℕ)
    → (check_row holds asked texts).Writes kept end text files → HaveOtherNames name files
check_other holds None texts kept end text files name are = of_those name [] files are tt
check_other holds (Some asked) texts kept end text files name are = of_those name [] files are tt

certificates_other : (name : List ℕ) (named : Option (List ℕ)) (transcript : ScriptTranscript)
    → (named ≡ Some name → ⊥) → HaveOtherNames name (certificates_files named transcript)
certificates_other name None transcript other = tt
certificates_other name (Some file) transcript other = (λ e. other (ap Some (sym e)), tt)

script_other : (name : List ℕ) (named : Option (List ℕ)) (transcript : Option ScriptTranscript)
    → (named ≡ Some name → ⊥) → HaveOtherNames name (script_files named transcript)
script_other name named None other = tt
script_other name named (Some transcript) other = certificates_other name named transcript other

live_other : (holds : List ℕ → KnownFile) (budget : Option ℕ) (texts : LiveTexts) (kept : Transcript) (end : Status)
    (text : List ℕ) (files : List FileText) (name : List ℕ) → (texts.certificate ≡ Some name → ⊥)
    → (live_row holds budget texts).Writes kept end text files → HaveOtherNames name files
live_other holds None texts kept end text files name other are = of_those name [] files are tt
live_other holds (Some budget) texts kept end text files name other are =
    of_those name (script_files texts.certificate kept.script) files are
    (script_other name texts.certificate kept.script other)

bench_other : (large : Option LargeInput) (kept : Transcript) (end : Status) (text : List ℕ) (files : List FileText)
    (name : List ℕ) → (bench_row large).Writes kept end text files → HaveOtherNames name files
bench_other None kept end text files name are = of_those name [] files are tt
bench_other (Some large) kept end text files name are = of_those name [] files are tt

names_other : (holds : List ℕ → KnownFile) (by : Option Naming) (texts : NamesTexts) (kept : Transcript) (end : Status)
    (text : List ℕ) (files : List FileText) (name : List ℕ) → (texts.certificate ≡ Some name → ⊥)
    → (names_row holds by texts).Writes kept end text files → HaveOtherNames name files
names_other holds None texts kept end text files name other are = of_those name [] files are tt
names_other holds (Some naming) texts kept end text files name other are =
    of_those name (session_files texts.certificate kept.session) files are
    (session_other name texts.certificate kept.session other)

af_other : (holds : List ℕ → KnownFile) (by : Option NameFormat) (texts : AfTexts) (kept : Transcript) (end : Status)
    (text : List ℕ) (files : List FileText) (name : List ℕ) → (af_row holds by texts).Writes kept end text files
    → HaveOtherNames name files
af_other holds None texts kept end text files name are = of_those name [] files are tt
af_other holds (Some format) texts kept end text files name are = of_those name [] files are tt

export_other : (holds : List ℕ → KnownFile) (by : Option Exporting) (texts : ExportTexts) (kept : Transcript)
    (end : Status) (text : List ℕ) (files : List FileText) (name : List ℕ)
    → ((name ≡ cnf_name texts.output) ⊎ (name ≡ lrat_name texts.output) → ⊥)
    → (export_row holds by texts).Writes kept end text files → HaveOtherNames name files
export_other holds None texts kept end text files name other are = of_those name [] files are tt
export_other holds (Some wanted) texts kept end text files name other writes =
    of_those name (exported_files texts.output writes.exported) files writes.files_are
    (λ e. other (inl e), (λ e. other (inr e), tt))

-- a row writes no file but those that the words name
row_other : (holds : List ℕ → KnownFile) (words : List (List ℕ)) (request : Request) (kept : Transcript) (end : Status)
    (text : List ℕ) (files : List FileText) (name : List ℕ) → requested words ≡ request → ¬ NamesCertificate words name
    → (row_of holds request).Writes kept end text files → HaveOtherNames name files
row_other holds words version kept end text files name is other are = of_those name [] files are tt
row_other holds words problems kept end text files name is other are = of_those name [] files are tt
row_other holds words (solving texts) kept end text files name is other are =
    solve_other holds (solving_by texts) texts kept end text files name
    (λ e. other (inl (record { texts = texts; asks = query_requested words texts is; named = e }))) are
row_other holds words (checking texts) kept end text files name is other are =
    check_other holds (asked_by texts.task texts.number) texts kept end text files name are
row_other holds words (living texts) kept end text files name is other are =
    live_other holds (budget_of texts.budget) texts kept end text files name
    (λ e. other (inr (inl (record { texts = texts; asks = script_requested words texts is; named = e })))) are
row_other holds words (benching texts) kept end text files name is other are =
    bench_other (large_by texts) kept end text files name are
row_other holds words (by_name texts) kept end text files name is other are =
    names_other holds (naming_by texts) texts kept end text files name
    (λ e. other (inr (inr (inl (record { texts = texts; asks = names_requested_by words texts is; named = e }))))) are
row_other holds words (numbering texts) kept end text files name is other are =
    af_other holds (format_named texts.kind) texts kept end text files name are
row_other holds words (verifying texts) kept end text files name is other are = of_those name [] files are tt
row_other holds words (exporting texts) kept end text files name is other are =
    export_other holds (exporting_by texts) texts kept end text files name
    (λ e. other (inr (inr (inr (record { texts = texts; asks = export_requested_by words texts is; named = e }))))) are
row_other holds words unknown kept end text files name is other are = of_those name [] files are tt

-- the files of an ending have other names than one that names no certificate
pub ending_other : (found : Reading) (words : List (List ℕ)) (ending : Ending) (name : List ℕ)
    → IsEndingOf found (row_of found.holds (requested words)) ending → ¬ NamesCertificate words name
    → HaveOtherNames name (map file_text ending.files)
ending_other found words ending name decided other =
    beside_other name (common_text ending.status)
    ((row_of found.holds (requested words)).Writes ending.kept ending.status (text_bytes ending.text))
    (map file_text ending.files)
    (λ list are. row_other found.holds words (requested words) ending.kept ending.status (text_bytes ending.text) list name
    refl other are) decided.files

-- where each name of a kind is accepted, and files have other names than those that aren't of it, none is refused
none_refused : (accepts Named : List ℕ → Type 0) (files : List FileText) → ((name : List ℕ) → Named name → accepts name)
    → ((name : List ℕ) → ¬ Named name → HaveOtherNames name files) → RefusesFile accepts files → ⊥
none_refused accepts Named [] all other refused = refused
none_refused accepts Named (file ∷ more) all other (inl refused) =
    (other file.name (λ named. refused (all file.name named))).0 refl
none_refused accepts Named (file ∷ more) all other (inr refused) =
    none_refused accepts Named more all (λ name unnamed. (other name unnamed).1) refused

-- where each name for certificates is accepted, a write fault is one of the output
pub output_fault : (found : Reading) (words : List (List ℕ)) (accepts : List ℕ → Type 0) (ending : Ending) (old new : ℕ)
    → IsEndingOf found (row_of found.holds (requested words)) ending
    → ((name : List ℕ) → NamesCertificate words name → accepts name)
    → FaultCounted old new ⊎ RefusesFile accepts (map file_text ending.files) → FaultCounted old new
output_fault found words accepts ending old new decided all = ⊎_elim (λ counted. counted)
    (λ refused. absurd (none_refused accepts (NamesCertificate words) (map file_text ending.files) all
    (λ name other. ending_other found words ending name decided other) refused))

pub write_fault_or : (end : Status) → (end ≡ WriteFault) ⊎ (end ≢ WriteFault)
write_fault_or WriteFault = inl refl
write_fault_or Done = inr (λ e. cc)
write_fault_or Usage = inr (λ e. cc)
write_fault_or (InputRefused refusal) = inr (λ e. cc)
write_fault_or (ReadFault r) = inr (λ e. cc)
write_fault_or WantOfMemory = inr (λ e. cc)
write_fault_or Unknown = inr (λ e. cc)
write_fault_or (Limit l) = inr (λ e. cc)
write_fault_or (Rejected rejection) = inr (λ e. cc)

-- what is decided and then written is a run
pub IsRunOf-written : (words : List (List ℕ)) (seen : Seen) (ended : Ended) (ending : Ending) (count : Role → ℕ)
    (holds : List ℕ → KnownFile) (writes : ℕ)
    → IsEndingFor (record seen.files { new_count = count }) (requested words) ending → holds ≡ seen.before.holds
    → writes ≡ seen.before.write_count → ended.kept ≡ ending.kept
    → (ended.status ≢ WriteFault → (ended.status ≡ ending.status)
    × IsWritten ending (record seen.before { holds = holds; write_count = writes }) seen.after)
    → (ended.status ≡ WriteFault
    → BreaksOff ending (record seen.before { holds = holds; write_count = writes }) seen.after)
    → (ended.status ≡ WriteFault → FaultCounted seen.before.fault_count seen.after.fault_count
    ⊎ RefusesFile seen.Accepts (map file_text ending.files))
    → seen.files.new_count ≡ count → IsRunOf words seen ended
IsRunOf-written words seen ended ending count holds writes decided same none kept whole broken refused reads =
    let old : Output = record seen.before { holds = holds; write_count = writes } in
    let is : old ≡ seen.before = λ i. record seen.before { holds = same i; write_count = none i } in
    let P : (Role → ℕ) → Type 0 = λ c. IsEndingFor (record seen.files { new_count = c }) (requested words) ending in
    record {
      ending = ending;
      decided = subst P (sym reads) decided;
      kept = kept;
      whole = λ w. let both = whole w in (both.0, subst (λ (o : Output). IsWritten ending o seen.after) is both.1);
      broken = λ b. subst (λ (o : Output). BreaksOff ending o seen.after) is (broken b);
      refused = refused;
    }

-- ---- a session that is kept

-- that of a query by numbers
pub asks_number : (words : List (List ℕ)) (holds : List ℕ → KnownFile) (texts : SolveTexts) (query : Solving)
    (session : KeptSession) → IsSolveQuery words texts → solving_by texts ≡ Some query
    → IsSessionOn (holds texts.file) query session → AsksSession words holds session
asks_number words holds texts query session asks query_is on = record {
  query = query;
  framework = on.framework;
  asks = inl (record { texts = texts; asks = asks; query_is = query_is; of_framework = on.of_framework });
  is = on.is;
}

-- that of a query by names
pub asks_name : (words : List (List ℕ)) (holds : List ℕ → KnownFile) (texts : NamesTexts) (naming : Naming)
    (session : KeptSession) (text : List ℕ) → IsNamesQuery words texts → naming_by texts ≡ Some naming
    → AnswersNamedFile (holds texts.file) naming texts.name session text → AsksSession words holds session
asks_name words holds texts naming session text asks naming_is file =
    let answers = file.answers in
    record {
      query = solving_of naming answers.asked;
      framework = af answers.framework;
      asks = inr (record {
        texts = texts;
        asks = asks;
        naming = naming;
        naming_is = naming_is;
        names = answers.names;
        plain = answers.framework;
        of_framework = record { bytes = file.bytes; has = file.has; reads = answers.reads };
        framework_is = refl;
        asked = answers.asked;
        asks_by = answers.asks;
        query_is = refl;
      });
      is = answers.is;
    }

-- nothing is kept, and so no session
none_kept : (found : Reading) (words : List (List ℕ)) (kept : Transcript) (session : KeptSession) → kept ≡ nothing_kept
    → kept.session ≡ Some session → AsksSession words found.holds session
none_kept found words kept session nothing is =
    absurd (let e : None ≡ Some session = sym (ap (λ (k : Transcript). k.session) nothing) ∙ is in cc)

-- what keeps a transcript keeps no session
no_session : (words : List (List ℕ)) (holds : List ℕ → KnownFile) (kept : Transcript) (transcript : ScriptTranscript)
    (session : KeptSession) → kept ≡ script_kept transcript → kept.session ≡ Some session → AsksSession words holds session
no_session words holds kept transcript session keeps is =
    absurd (let e : None ≡ Some session = sym (ap (λ (k : Transcript). k.session) keeps) ∙ is in cc)

live_session : (found : Reading) (words : List (List ℕ)) (texts : LiveTexts) (by : Option ℕ) (kept : Transcript)
    (end : Status) (session : KeptSession) → (live_row found.holds by texts).Ends kept end → kept.session ≡ Some session
    → AsksSession words found.holds session
live_session found words texts None kept end session unasked is = none_kept found words kept session unasked.0 is
live_session found words texts (Some budget) kept end session lives is =
    no_session words found.holds kept lives.transcript session lives.keeps is

bench_session : (found : Reading) (words : List (List ℕ)) (by : Option LargeInput) (kept : Transcript) (end : Status)
    (session : KeptSession) → (bench_row by).Ends kept end → kept.session ≡ Some session
    → AsksSession words found.holds session
bench_session found words None kept end session unasked is = none_kept found words kept session unasked.0 is
bench_session found words (Some large) kept end session ends is =
    no_session words found.holds kept ends.run.transcript session ends.keeps is

-- a check keeps nothing
check_keeps : (holds : List ℕ → KnownFile) (asked : Option Asked) (texts : CheckTexts) (kept : Transcript) (end : Status)
    → (check_row holds asked texts).Ends kept end → kept ≡ nothing_kept
check_keeps holds None texts kept end unasked = unasked.0
check_keeps holds (Some asked) texts kept end checks = checks.0

kept_by : (found : Reading) (words : List (List ℕ)) (texts : SolveTexts) (by : Option Solving) (kept : Transcript)
    (end : Status) (session : KeptSession) → IsSolveQuery words texts → solving_by texts ≡ by
    → (solve_row found.holds by texts).Ends kept end → kept.session ≡ Some session
    → AsksSession words found.holds session
kept_by found words texts None kept end session asks query_is unasked is =
    none_kept found words kept session unasked.0 is
kept_by found words texts (Some query) kept end session asks query_is solved is =
    let e : solved.session ≡ session = some_is (sym (ap (λ (k : Transcript). k.session) solved.keeps) ∙ is) in
    subst (AsksSession words found.holds) e
    (asks_number words found.holds texts query solved.session asks query_is solved.on)

names_session : (found : Reading) (words : List (List ℕ)) (texts : NamesTexts) (by : Option Naming) (kept : Transcript)
    (end : Status) (session : KeptSession) → IsNamesQuery words texts → naming_by texts ≡ by
    → (names_row found.holds by texts).Ends kept end → kept.session ≡ Some session
    → AsksSession words found.holds session
names_session found words texts None kept end session asks naming_is unasked is =
    none_kept found words kept session unasked.0 is
names_session found words texts (Some naming) kept end session asks naming_is (inr unnamed) is =
    none_kept found words kept session unnamed.keeps is
names_session found words texts (Some naming) kept end session asks naming_is (inl named) is =
    let e : named.session ≡ session = some_is (sym (ap (λ (k : Transcript). k.session) named.keeps) ∙ is) in
    subst (AsksSession words found.holds) e
    (asks_name words found.holds texts naming named.session named.text asks naming_is named.answers)

-- an export keeps nothing
export_keeps : (holds : List ℕ → KnownFile) (by : Option Exporting) (texts : ExportTexts) (kept : Transcript)
    (end : Status) → (export_row holds by texts).Ends kept end → kept ≡ nothing_kept
export_keeps holds None texts kept end unasked = unasked.0
export_keeps holds (Some wanted) texts kept end exports = exports.0

-- a text with numbers keeps nothing
af_keeps : (holds : List ℕ → KnownFile) (by : Option NameFormat) (texts : AfTexts) (kept : Transcript) (end : Status)
    → (af_row holds by texts).Ends kept end → kept ≡ nothing_kept
af_keeps holds None texts kept end unasked = unasked.0
af_keeps holds (Some format) texts kept end numbered = numbered.keeps

pub kept_at : (found : Reading) (words : List (List ℕ)) (request : Request) (kept : Transcript) (end : Status)
    (session : KeptSession) → requested words ≡ request → EndsCommand found (row_of found.holds request) kept end
    → kept.session ≡ Some session → AsksSession words found.holds session
kept_at found words request kept end session asked (inl (nothing, why)) is =
    none_kept found words kept session nothing is
kept_at found words version kept end session asked (inr done) is = none_kept found words kept session done.0 is
kept_at found words problems kept end session asked (inr done) is = none_kept found words kept session done.0 is
kept_at found words (checking texts) kept end session asked (inr checks) is =
    none_kept found words kept session
    (check_keeps found.holds (asked_by texts.task texts.number) texts kept end checks) is
kept_at found words unknown kept end session asked (inr unasked) is = none_kept found words kept session unasked.0 is
kept_at found words (living texts) kept end session asked (inr ends) is =
    live_session found words texts (budget_of texts.budget) kept end session ends is
kept_at found words (benching texts) kept end session asked (inr ends) is =
    bench_session found words (large_by texts) kept end session ends is
kept_at found words (by_name texts) kept end session asked (inr ends) is =
    names_session found words texts (naming_by texts) kept end session (names_requested_by words texts asked) refl ends is
kept_at found words (numbering texts) kept end session asked (inr ends) is =
    none_kept found words kept session (af_keeps found.holds (format_named texts.kind) texts kept end ends) is
kept_at found words (verifying texts) kept end session asked (inr ends) is = none_kept found words kept session ends.0 is
kept_at found words (exporting texts) kept end session asked (inr ends) is =
    none_kept found words kept session (export_keeps found.holds (exporting_by texts) texts kept end ends) is
kept_at found words (solving texts) kept end session asked (inr ends) is =
    kept_by found words texts (solving_by texts) kept end session (query_requested words texts asked) refl ends is

-- ---- a transcript that is kept

nothing_no_script : (kept : Transcript) (transcript : ScriptTranscript) → kept ≡ nothing_kept
    → kept.script ≡ Some transcript → ⊥
nothing_no_script kept transcript nothing is =
    let e : None ≡ Some transcript = sym (ap (λ (k : Transcript). k.script) nothing) ∙ is in cc

solve_no_script : (holds : List ℕ → KnownFile) (by : Option Solving) (texts : SolveTexts) (kept : Transcript) (end : Status)
    (transcript : ScriptTranscript) → (solve_row holds by texts).Ends kept end → kept.script ≡ Some transcript → ⊥
solve_no_script holds None texts kept end transcript unasked is = nothing_no_script kept transcript unasked.0 is
solve_no_script holds (Some query) texts kept end transcript solved is =
    let e : None ≡ Some transcript = sym (ap (λ (k : Transcript). k.script) solved.keeps) ∙ is in cc

names_no_script : (holds : List ℕ → KnownFile) (by : Option Naming) (texts : NamesTexts) (kept : Transcript) (end : Status)
    (transcript : ScriptTranscript) → (names_row holds by texts).Ends kept end → kept.script ≡ Some transcript → ⊥
names_no_script holds None texts kept end transcript unasked is = nothing_no_script kept transcript unasked.0 is
names_no_script holds (Some naming) texts kept end transcript (inr unnamed) is =
    nothing_no_script kept transcript unnamed.keeps is
names_no_script holds (Some naming) texts kept end transcript (inl named) is =
    let e : None ≡ Some transcript = sym (ap (λ (k : Transcript). k.script) named.keeps) ∙ is in cc

script_by : (found : Reading) (words : List (List ℕ)) (texts : LiveTexts) (by : Option ℕ) (kept : Transcript)
    (end : Status) (transcript : ScriptTranscript) → IsLiveQuery words texts → budget_of texts.budget ≡ by
    → (live_row found.holds by texts).Ends kept end → kept.script ≡ Some transcript
    → AsksScript words found.holds transcript
script_by found words texts None kept end transcript asks budget_is unasked is =
    absurd (nothing_no_script kept transcript unasked.0 is)
script_by found words texts (Some budget) kept end transcript asks budget_is lives is = record {
  texts = texts;
  asks = asks;
  budget = budget;
  budget_is = budget_is;
  runs = let e : lives.transcript ≡ transcript
      = some_is (sym (ap (λ (k : Transcript). k.script) lives.keeps) ∙ is) in
      subst (RunsScript found.holds budget texts) e lives.runs;
}

large_from : (words : List (List ℕ)) (texts : BenchTexts) (by : Option LargeInput) (kept : Transcript) (end : Status)
    (transcript : ScriptTranscript) → IsBenchQuery words texts → large_by texts ≡ by → (bench_row by).Ends kept end
    → kept.script ≡ Some transcript → AsksLarge words transcript
large_from words texts None kept end transcript asks large_is unasked is =
    absurd (nothing_no_script kept transcript unasked.0 is)
large_from words texts (Some large) kept end transcript asks large_is ends is = record {
  texts = texts;
  asks = asks;
  large = large;
  large_is = large_is;
  is = let e : ends.run.transcript ≡ transcript
      = some_is (sym (ap (λ (k : Transcript). k.script) ends.keeps) ∙ is) in
      subst (IsTranscriptOf (af (bench_framework large.arguments large.seed)) (bench_script large.arguments large.seed)
      BENCH_BUDGET) e ends.is.transcript;
}

pub script_at : (found : Reading) (words : List (List ℕ)) (request : Request) (kept : Transcript) (end : Status)
    (transcript : ScriptTranscript) → requested words ≡ request
    → EndsCommand found (row_of found.holds request) kept end → kept.script ≡ Some transcript
    → AsksTranscript words found.holds transcript
script_at found words request kept end transcript asked (inl (nothing, why)) is =
    absurd (nothing_no_script kept transcript nothing is)
script_at found words version kept end transcript asked (inr done) is =
    absurd (nothing_no_script kept transcript done.0 is)
script_at found words problems kept end transcript asked (inr done) is =
    absurd (nothing_no_script kept transcript done.0 is)
script_at found words (solving texts) kept end transcript asked (inr ends) is =
    absurd (solve_no_script found.holds (solving_by texts) texts kept end transcript ends is)
script_at found words (checking texts) kept end transcript asked (inr checks) is =
    absurd (nothing_no_script kept transcript
    (check_keeps found.holds (asked_by texts.task texts.number) texts kept end checks) is)
script_at found words (living texts) kept end transcript asked (inr ends) is =
    inl (script_by found words texts (budget_of texts.budget) kept end transcript (script_requested words texts asked)
    refl ends is)
script_at found words (benching texts) kept end transcript asked (inr ends) is =
    inr (large_from words texts (large_by texts) kept end transcript (input_requested words texts asked) refl ends is)
script_at found words (by_name texts) kept end transcript asked (inr ends) is =
    absurd (names_no_script found.holds (naming_by texts) texts kept end transcript ends is)
script_at found words (numbering texts) kept end transcript asked (inr ends) is =
    absurd (nothing_no_script kept transcript
    (af_keeps found.holds (format_named texts.kind) texts kept end ends) is)
script_at found words (verifying texts) kept end transcript asked (inr ends) is =
    absurd (nothing_no_script kept transcript ends.0 is)
script_at found words (exporting texts) kept end transcript asked (inr ends) is =
    absurd (nothing_no_script kept transcript (export_keeps found.holds (exporting_by texts) texts kept end ends) is)
script_at found words unknown kept end transcript asked (inr unasked) is =
    absurd (nothing_no_script kept transcript unasked.0 is)
