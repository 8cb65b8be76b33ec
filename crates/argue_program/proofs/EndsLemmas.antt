-- How a command may end, by its row of the table.
use Rattle.std.proofs.Common.{◌≡◌, ◌≢◌, ◌⊎◌, ◌<◌, ◌≤◌, ℕ, List, length, refl, sym, ap, subst, inl, inr, ⊎_elim}
use Rattle.std.proofs.Common.{true, false, arith, Option, None, Some, Ok}
use Rattle.argue_outside.specs.Outside.{KnownFile}
use Rattle.argue_outside.specs.declared.Role.TheVariants.{Framework, Script as OfScript, Answer as OfAnswer}
use Rattle.argue_outside.specs.declared.Role.TheVariants.{Certificate as OfCertificate}
use Rattle.argue_words.specs.Words.{CheckTexts, IsSolveQuery, LiveTexts, Request, SolveTexts, requested}
use Rattle.argue_words.proofs.RequestLaws.{requested_query}
use Rattle.framework_text.specs.FrameworkText.{IsFaulty, ReadsAs}
use Rattle.framework_text.proofs.Readings.{ReadsAs-numbered, ReadsAs-same}
use Rattle.argue_commands.specs.Inputs.{HasReadFault, Input, IsFirstFaultIn, IsFirstFaultOf, IsFrameworkOf, IsScriptOf}
use Rattle.argue_commands.specs.Inputs.{IsSoundOf, Reading, StopsAt, StopsAtFirst, input}
use Rattle.argue_program.specs.Rows.{EndsCommand, EndsLarge, EndsLive, EndsSolved, bench_row, check_row, live_row}
use Rattle.argue_program.specs.Rows.{problems_row, row_of, solve_row, unknown_row, version_row}
use Rattle.iccma_tasks.specs.Tasks.{Asked}
use Rattle.argue_commands.specs.Queries.{asked_by, solving_by}
use Rattle.argue_commands.specs.Solves.{IsSessionOf}
use Rattle.argue_program.specs.declared.large.LargeInput.{LargeInput}
use Rattle.argue_commands.specs.declared.query.Solving.{Solving}
use Rattle.argue_commands.specs.Checks.{CheckEnds, ChecksFiles, IsAnswerOf, IsCertificateOf, check_inputs}
use Rattle.argue_commands.proofs.CheckLemmas.{answer_sound, certificate_sound, framework_sound, stops_told}
use Rattle.argue_commands.proofs.KnownLemmas.{bytes_at, within_at, longer_at, readable_or_faulty, first_at}
use Rattle.argue_commands.proofs.KnownLemmas.{framework_reads}
use Rattle.semantics.specs.Frameworks.{Framework as AnyFramework}
use Rattle.iccma_tasks.specs.AnswerText.{filled_fields, ReadsAs as AnswerReadsAs}
use Rattle.iccma_tasks.specs.declared.answer.Answer.{Answer}
use Rattle.iccma_tasks.proofs.Exact.{ReadsAs-unique}
use Rattle.certificate_claims.specs.declared.certificate.Certificate.{Certificate}
use Rattle.certificate_claims.proofs.Agreeing.{agrees_with_right}
use Rattle.certificate_claims.proofs.Right.{accepted_right}
use Rattle.certificate_claims.proofs.Verdicts.{accepted_is_verdict}
use Rattle.certificate_text.specs.Reading.{ReadsAs as CertReadsAs}
use Rattle.certificate_text.proofs.OneOutcome.{one_reading}
use Rattle.argue_program.specs.Runs.{AnswersRight, ChecksContents, EndsAsReplied, HasText, IsCheckEnd}
use Rattle.argue_program.specs.Runs.{IsDoneOrMemory, IsSolveEnd, QueriesBytes, IsFaultyScript, IsLiveEnd}
use Rattle.argue_program.specs.Runs.{KeepsTranscript, LivesContents, RefusesBytes, RefusesLength, RefusesWords}
use Rattle.argue_program.specs.Runs.{ScriptsBytes, SolvesContents}
use Rattle.argue_commands.specs.Opening.{live_inputs}
use Rattle.argue_commands.proofs.OpeningLemmas.{script_sound}
use Rattle.bench_runs.specs.Transcripts.{IsTranscriptOf}
use Rattle.script_text.proofs.FirstFaults.{script_is_faultless}
use Rattle.script_text.proofs.OneScript.{script_same}
use Rattle.script_text.specs.ScriptText.{IsScript}
use Rattle.script_text.specs.declared.script.Script.{Script}
use Rattle.argue_commands.specs.declared.ended.Limit.TheVariants as limit
use Rattle.argue_commands.specs.declared.ended.Refusal.TheVariants.{Line, NoRefutation, Query, UnknownName}
use Rattle.argue_commands.specs.declared.ended.Status.{Status}
use Rattle.argue_commands.specs.declared.ended.Status.TheVariants.{Done, Usage, InputRefused, ReadFault}
use Rattle.argue_commands.specs.declared.ended.Status.TheVariants.{WriteFault, WantOfMemory, Unknown, Limit}
use Rattle.argue_commands.specs.declared.ended.Status.TheVariants.{Rejected}
use Rattle.argue_program.specs.declared.ended.Transcript.{Transcript}
use Rattle.num_text.specs.declared.limit.TheConstants.{MAX_INPUT}

-- ---- the row of a query

-- why the run of a query may end so
abbrev pub EndsQuery : Reading → SolveTexts → Solving → Transcript → Status → Type 0
EndsQuery found texts query kept end =
    StopsAt found end (input (Framework 1) texts.file)
    ⊎ ((end ≡ WantOfMemory) ⊎ EndsSolved (found.holds texts.file) query kept end)

pub ends_query : (found : Reading) (texts : SolveTexts) (query : Solving) (kept : Transcript) (end : Status)
    → EndsCommand found (solve_row found.holds (Some query) texts) kept end → EndsQuery found texts query kept end
ends_query found texts query kept end (inl (nothing, inl (inl (stops, follow)))) = inl stops
ends_query found texts query kept end (inl (nothing, inl (inr (passes, more)))) = absurd more
ends_query found texts query kept end (inl (nothing, inr memory)) = inr (inl memory.0)
ends_query found texts query kept end (inr answered) = inr (inr answered)

pub done_no_memory : Done ≢ WantOfMemory
done_no_memory e = cc

no_read_fault : (found : Reading) (words : List (List ℕ)) (texts : SolveTexts) (query : Solving) (bytes : List ℕ)
    → QueriesBytes found words texts query bytes → ¬ HasReadFault found (input (Framework 1) texts.file)
no_read_fault found words texts query bytes asks h =
    ⊎_elim (λ served. h.unserved served) (λ uncounted. uncounted h.counted) asks.no_fault

-- a query is no row of other words
pub at_query : (found : Reading) (words : List (List ℕ)) (texts : SolveTexts) (by : Option Solving) (kept : Transcript)
    (end : Status) → IsSolveQuery words texts → solving_by texts ≡ by
    → EndsCommand found (row_of found.holds (requested words)) kept end
    → EndsCommand found (solve_row found.holds by texts) kept end
at_query found words texts by kept end asks query_is cause =
    let P : Request → Type 0 = λ r. EndsCommand found (row_of found.holds r) kept end in
    let Q : Option Solving → Type 0 = λ o. EndsCommand found (solve_row found.holds o texts) kept end in
    subst Q query_is (subst P (requested_query words texts asks) cause)

-- ---- the laws of a query

module _ (found : Reading) (words : List (List ℕ)) (texts : SolveTexts) (query : Solving) (bytes : List ℕ)
    (kept : Transcript) (asks : QueriesBytes found words texts query bytes) where
  -- faulty bytes, and bytes over the limit, have no session
  unread : (end : Status) → EndsSolved (found.holds texts.file) query kept end → ¬ IsFaulty bytes
  unread end solved faulty =
      readable_or_faulty bytes
      (framework_reads (found.holds texts.file) bytes solved.on.framework asks.known solved.on.of_framework) faulty

  too_long_for : (end : Status) → EndsSolved (found.holds texts.file) query kept end → MAX_INPUT < length bytes → ⊥
  too_long_for end solved long =
      let of = solved.on.of_framework in
      let short = within_at (found.holds texts.file) bytes of.bytes asks.known of.has in
      omega arith

  -- faulty bytes within the limit are refused
  pub refuses_bytes : (end : Status) → IsFaulty bytes → length bytes ≤ MAX_INPUT → (end ≢ WriteFault
      → EndsQuery found texts query kept end) → RefusesBytes (Framework 1) bytes end
  refuses_bytes Done faulty short ends = not_done (ends (λ e. cc))
    where
      not_done : EndsQuery found texts query kept Done → ⊥
      not_done (inl stops) = stops
      not_done (inr (inl is)) = done_no_memory is
      not_done (inr (inr solved)) = unread Done solved faulty
  refuses_bytes (InputRefused (Query fault)) faulty short ends = not_query (ends (λ e. cc))
    where
      not_query : EndsQuery found texts query kept (InputRefused (Query fault)) → ⊥
      not_query (inl stops) = stops
      not_query (inr (inl is)) = absurd (cc)
      not_query (inr (inr solved)) = unread (InputRefused (Query fault)) solved faulty
  refuses_bytes (InputRefused UnknownName) faulty short ends = not_name (ends (λ e. cc))
    where
      not_name : EndsQuery found texts query kept (InputRefused UnknownName) → ⊥
      not_name (inl stops) = stops
      not_name (inr (inl is)) = absurd (cc)
      not_name (inr (inr solved)) = unread (InputRefused UnknownName) solved faulty
  refuses_bytes (InputRefused (NoRefutation k)) faulty short ends = not_number (ends (λ e. cc))
    where
      not_number : EndsQuery found texts query kept (InputRefused (NoRefutation k)) → ⊥
      not_number (inl stops) = stops
      not_number (inr (inl is)) = absurd (cc)
      not_number (inr (inr solved)) = unread (InputRefused (NoRefutation k)) solved faulty
  refuses_bytes (InputRefused (Line r line c)) faulty short ends = at_first (ends (λ e. cc))
    where
      at_first : EndsQuery found texts query kept (InputRefused (Line r line c))
          → (r ≡ Framework 1) × IsFirstFaultIn (Framework 1) bytes line c
      at_first (inl stops) =
          (stops.0, first_at found (input (Framework 1) texts.file) bytes line c asks.known stops.1)
      at_first (inr (inl is)) = absurd (cc)
      at_first (inr (inr solved)) = absurd (unread (InputRefused (Line r line c)) solved faulty)
  refuses_bytes Usage faulty short ends = not_usage (ends (λ e. cc))
    where
      not_usage : EndsQuery found texts query kept Usage → ⊥
      not_usage (inl stops) = stops
      not_usage (inr (inl is)) = absurd (cc)
      not_usage (inr (inr solved)) = unread Usage solved faulty
  refuses_bytes (Rejected rejection) faulty short ends = not_rejected (ends (λ e. cc))
    where
      not_rejected : EndsQuery found texts query kept (Rejected rejection) → ⊥
      not_rejected (inl stops) = stops
      not_rejected (inr (inl is)) = absurd (cc)
      not_rejected (inr (inr solved)) = unread (Rejected rejection) solved faulty
  refuses_bytes (ReadFault r) faulty short ends = not_unread (ends (λ e. cc))
    where
      not_unread : EndsQuery found texts query kept (ReadFault r) → ⊥
      not_unread (inl stops) = no_read_fault found words texts query bytes asks stops.1
      not_unread (inr (inl is)) = absurd (cc)
      not_unread (inr (inr solved)) = unread (ReadFault r) solved faulty
  refuses_bytes Unknown faulty short ends = not_unknown (ends (λ e. cc))
    where
      not_unknown : EndsQuery found texts query kept Unknown → ⊥
      not_unknown (inl stops) = stops
      not_unknown (inr (inl is)) = absurd (cc)
      not_unknown (inr (inr solved)) = unread Unknown solved faulty
  refuses_bytes (Limit limit.Extensions) faulty short ends = not_many (ends (λ e. cc))
    where
      not_many : EndsQuery found texts query kept (Limit limit.Extensions) → ⊥
      not_many (inl stops) = stops
      not_many (inr (inl is)) = absurd (cc)
      not_many (inr (inr solved)) = unread (Limit limit.Extensions) solved faulty
  refuses_bytes (Limit limit.Log) faulty short ends = not_full (ends (λ e. cc))
    where
      not_full : EndsQuery found texts query kept (Limit limit.Log) → ⊥
      not_full (inl stops) = stops
      not_full (inr (inl is)) = absurd (cc)
      not_full (inr (inr solved)) = unread (Limit limit.Log) solved faulty
  refuses_bytes WriteFault faulty short ends = tt
  refuses_bytes WantOfMemory faulty short ends = tt
  refuses_bytes (Limit limit.Input) faulty short ends = not_longer (ends (λ e. cc))
    where
      not_longer : EndsQuery found texts query kept (Limit limit.Input) → ⊥
      not_longer (inl stops) =
          let long = longer_at (found.holds texts.file) bytes asks.known stops in absurd (omega arith)
      not_longer (inr (inl is)) = absurd (cc)
      not_longer (inr (inr solved)) = unread (Limit limit.Input) solved faulty

  -- bytes over the limit are refused
  pub refuses_length : (end : Status) → MAX_INPUT < length bytes → (end ≢ WriteFault
      → EndsQuery found texts query kept end) → RefusesLength end
  refuses_length Done long ends = not_done (ends (λ e. cc))
    where
      not_done : EndsQuery found texts query kept Done → ⊥
      not_done (inl stops) = stops
      not_done (inr (inl is)) = done_no_memory is
      not_done (inr (inr solved)) = too_long_for Done solved long
  refuses_length (InputRefused (Query fault)) long ends = not_query (ends (λ e. cc))
    where
      not_query : EndsQuery found texts query kept (InputRefused (Query fault)) → ⊥
      not_query (inl stops) = stops
      not_query (inr (inl is)) = absurd (cc)
      not_query (inr (inr solved)) = too_long_for (InputRefused (Query fault)) solved long
  refuses_length (InputRefused UnknownName) long ends = not_name (ends (λ e. cc))
    where
      not_name : EndsQuery found texts query kept (InputRefused UnknownName) → ⊥
      not_name (inl stops) = stops
      not_name (inr (inl is)) = absurd (cc)
      not_name (inr (inr solved)) = too_long_for (InputRefused UnknownName) solved long
  refuses_length (InputRefused (NoRefutation k)) long ends = not_number (ends (λ e. cc))
    where
      not_number : EndsQuery found texts query kept (InputRefused (NoRefutation k)) → ⊥
      not_number (inl stops) = stops
      not_number (inr (inl is)) = absurd (cc)
      not_number (inr (inr solved)) = too_long_for (InputRefused (NoRefutation k)) solved long
  refuses_length (InputRefused (Line r line c)) long ends = not_line (ends (λ e. cc))
    where
      not_line : EndsQuery found texts query kept (InputRefused (Line r line c)) → ⊥
      not_line (inl stops) =
          let short = within_at (found.holds texts.file) bytes stops.1.bytes asks.known stops.1.has in
          absurd (omega arith)
      not_line (inr (inl is)) = absurd (cc)
      not_line (inr (inr solved)) = too_long_for (InputRefused (Line r line c)) solved long
  refuses_length Usage long ends = not_usage (ends (λ e. cc))
    where
      not_usage : EndsQuery found texts query kept Usage → ⊥
      not_usage (inl stops) = stops
      not_usage (inr (inl is)) = absurd (cc)
      not_usage (inr (inr solved)) = too_long_for Usage solved long
  refuses_length (Rejected rejection) long ends = not_rejected (ends (λ e. cc))
    where
      not_rejected : EndsQuery found texts query kept (Rejected rejection) → ⊥
      not_rejected (inl stops) = stops
      not_rejected (inr (inl is)) = absurd (cc)
      not_rejected (inr (inr solved)) = too_long_for (Rejected rejection) solved long
  refuses_length (ReadFault r) long ends = not_unread (ends (λ e. cc))
    where
      not_unread : EndsQuery found texts query kept (ReadFault r) → ⊥
      not_unread (inl stops) = no_read_fault found words texts query bytes asks stops.1
      not_unread (inr (inl is)) = absurd (cc)
      not_unread (inr (inr solved)) = too_long_for (ReadFault r) solved long
  refuses_length Unknown long ends = not_unknown (ends (λ e. cc))
    where
      not_unknown : EndsQuery found texts query kept Unknown → ⊥
      not_unknown (inl stops) = stops
      not_unknown (inr (inl is)) = absurd (cc)
      not_unknown (inr (inr solved)) = too_long_for Unknown solved long
  refuses_length (Limit limit.Extensions) long ends = not_many (ends (λ e. cc))
    where
      not_many : EndsQuery found texts query kept (Limit limit.Extensions) → ⊥
      not_many (inl stops) = stops
      not_many (inr (inl is)) = absurd (cc)
      not_many (inr (inr solved)) = too_long_for (Limit limit.Extensions) solved long
  refuses_length (Limit limit.Log) long ends = not_full (ends (λ e. cc))
    where
      not_full : EndsQuery found texts query kept (Limit limit.Log) → ⊥
      not_full (inl stops) = stops
      not_full (inr (inl is)) = absurd (cc)
      not_full (inr (inr solved)) = too_long_for (Limit limit.Log) solved long
  refuses_length WriteFault long ends = tt
  refuses_length WantOfMemory long ends = tt
  refuses_length (Limit limit.Input) long ends = tt

-- ---- the laws of other words

-- without words the run is done
pub version_done : (found : Reading) (kept : Transcript) (end : Status) → EndsCommand found version_row kept end
    → end ≡ Done
version_done found kept end (inl (nothing, inl stops)) = absurd stops
version_done found kept end (inl (nothing, inr (is, takes))) = absurd (let e : false ≡ true = takes in cc)
version_done found kept end (inr done) = done.1

-- the list of tasks is done, but for want of memory
pub problems_done : (found : Reading) (kept : Transcript) (end : Status) → EndsCommand found problems_row kept end
    → IsDoneOrMemory end
problems_done found kept end (inl (nothing, inl stops)) = absurd stops
problems_done found kept end (inl (nothing, inr memory)) = subst IsDoneOrMemory (sym memory.0) tt
problems_done found kept end (inr done) = subst IsDoneOrMemory (sym done.1) tt

pub ends_unknown : (found : Reading) (kept : Transcript) (end : Status) → end ≢ Usage → end ≢ WantOfMemory
    → ¬ EndsCommand found unknown_row kept end
ends_unknown found kept end usage wants (inl (nothing, inl stops)) = stops
ends_unknown found kept end usage wants (inl (nothing, inr memory)) = wants memory.0
ends_unknown found kept end usage wants (inr unasked) = usage unasked.1

-- words that ask for nothing are refused
pub refuses_words : (found : Reading) (kept : Transcript) (end : Status)
    → (end ≢ WriteFault → EndsCommand found unknown_row kept end) → RefusesWords end
refuses_words found kept Done ends = absurd (ends_unknown found kept Done (λ e. cc) (λ e. cc) (ends (λ e. cc)))
refuses_words found kept Usage ends = tt
refuses_words found kept (InputRefused refusal) ends =
    absurd (ends_unknown found kept (InputRefused refusal) (λ e. cc) (λ e. cc) (ends (λ e. cc)))
refuses_words found kept (ReadFault r) ends =
    absurd (ends_unknown found kept (ReadFault r) (λ e. cc) (λ e. cc) (ends (λ e. cc)))
refuses_words found kept (Rejected rejection) ends =
    absurd (ends_unknown found kept (Rejected rejection) (λ e. cc) (λ e. cc) (ends (λ e. cc)))
refuses_words found kept WriteFault ends = tt
refuses_words found kept WantOfMemory ends = tt
refuses_words found kept Unknown ends =
    absurd (ends_unknown found kept Unknown (λ e. cc) (λ e. cc) (ends (λ e. cc)))
refuses_words found kept (Limit l) ends =
    absurd (ends_unknown found kept (Limit l) (λ e. cc) (λ e. cc) (ends (λ e. cc)))

-- ---- the laws of a check

accepts_right : (holds : List ℕ → KnownFile) (asked : Asked) (texts : CheckTexts)
    → asked_by texts.task texts.number ≡ Some asked → ChecksFiles holds asked texts Done → AnswersRight holds texts
accepts_right holds asked texts asks checks =
    let right = accepted_right checks.framework asked checks.answer checks.certificate
    (ReadsAs-numbered checks.of_framework.bytes checks.framework checks.of_framework.reads)
    ((accepted_is_verdict checks.framework asked checks.answer checks.certificate).0 checks.ends.1) in
    record {
      asked = asked;
      asks = asks;
      framework = checks.framework;
      answer = checks.answer;
      of_framework = checks.of_framework;
      of_answer = checks.of_answer;
      right = right;
      agrees = agrees_with_right checks.framework asked checks.answer right;
    }

pub done_right : (found : Reading) (by : Option Asked) (texts : CheckTexts) (kept : Transcript)
    → asked_by texts.task texts.number ≡ by → EndsCommand found (check_row found.holds by texts) kept Done
    → AnswersRight found.holds texts
done_right found None texts kept asks ends = absurd (ends_unknown found kept Done (λ e. cc) (λ e. cc) ends)
done_right found (Some asked) texts kept asks (inl (nothing, inl stops)) =
    absurd (stops_told found (check_inputs texts) Done stops refl)
done_right found (Some asked) texts kept asks (inl (nothing, inr memory)) = absurd (done_no_memory memory.0)
done_right found (Some asked) texts kept asks (inr checks) = accepts_right found.holds asked texts asks checks.1

-- an input that reads as something ends no run
pub no_stop : (found : Reading) (one : Input) (P : List ℕ → Type 0)
    → ((bytes : List ℕ) → P bytes → IsSoundOf one bytes) → HasText found one P → (end : Status) → ¬ StopsAt found end one
no_stop found one P sound has (InputRefused (Line of line c)) stops =
    sound has.bytes has.reads line c
    (subst (λ bs. IsFirstFaultOf one bs line c)
    (bytes_at (found.holds one.file) has.bytes stops.1.bytes has.known stops.1.has) stops.1.first)
no_stop found one P sound has (InputRefused (Query fault)) stops = stops
no_stop found one P sound has (InputRefused UnknownName) stops = stops
no_stop found one P sound has (InputRefused (NoRefutation k)) stops = stops
no_stop found one P sound has (ReadFault of) stops =
    ⊎_elim (λ served. stops.1.unserved served) (λ uncounted. uncounted stops.1.counted) has.no_fault
no_stop found one P sound has (Limit limit.Input) stops =
    let long = longer_at (found.holds one.file) has.bytes has.known stops in
    let short = has.within in
    omega arith
no_stop found one P sound has (Limit limit.Extensions) stops = stops
no_stop found one P sound has (Limit limit.Log) stops = stops
no_stop found one P sound has Unknown stops = stops
no_stop found one P sound has Done stops = stops
no_stop found one P sound has Usage stops = stops
no_stop found one P sound has WriteFault stops = stops
no_stop found one P sound has WantOfMemory stops = stops
no_stop found one P sound has (Rejected rejection) stops = stops

check_end : (f : AnyFramework) (asked : Asked) (answer : Answer) (certificate : Certificate) (end : Status)
    → CheckEnds f asked answer certificate end → IsCheckEnd f asked answer certificate end
check_end f asked answer certificate Done ends = ends
check_end f asked answer certificate Usage ends = ends
check_end f asked answer certificate (InputRefused refusal) ends = ends
check_end f asked answer certificate (ReadFault r) ends = ends
check_end f asked answer certificate WriteFault ends = tt
check_end f asked answer certificate WantOfMemory ends = tt
check_end f asked answer certificate Unknown ends = ends
check_end f asked answer certificate (Limit l) ends = ends
check_end f asked answer certificate (Rejected rejection) ends = ends

-- the framework that the file reads as is the one
framework_same : (found : Reading) (one : Input) (f g : AnyFramework) → HasText found one (λ bytes. ReadsAs bytes f)
    → IsFrameworkOf (found.holds one.file) g → g ≡ f
framework_same found one f g has is =
    ReadsAs-same has.bytes g f
    (subst (λ bs. ReadsAs bs g) (bytes_at (found.holds one.file) has.bytes is.bytes has.known is.has) is.reads)
    has.reads

module _ (found : Reading) (words : List (List ℕ)) (texts : CheckTexts) (asked : Asked) (f : AnyFramework)
    (answer : Answer)
    (certificate : Certificate) (contents : ChecksContents found words texts asked f answer certificate) where
  same_framework : (g : AnyFramework) → IsFrameworkOf (found.holds texts.file) g → g ≡ f
  same_framework g is = framework_same found (input (Framework 1) texts.file) f g contents.of_framework is

  same_answer : (a : Answer) → IsAnswerOf (found.holds texts.answer) a → a ≡ answer
  same_answer a is =
      let has = contents.of_answer in
      ReadsAs-unique (filled_fields has.bytes) a answer
      (subst (λ bs. AnswerReadsAs (filled_fields bs) a)
      (bytes_at (found.holds texts.answer) has.bytes is.bytes has.known is.has) is.reads) has.reads

  same_certificate : (k : Certificate) → IsCertificateOf (found.holds texts.certificate) k → k ≡ certificate
  same_certificate k is =
      let has = contents.of_certificate in
      let e : Ok k ≡ Ok certificate
      = one_reading has.bytes (Ok k) (Ok certificate)
      (subst (λ bs. CertReadsAs bs (Ok k))
      (bytes_at (found.holds texts.certificate) has.bytes is.bytes has.known is.has) is.reads) has.reads in
      cc e

  no_stops : (end : Status) → ¬ StopsAtFirst found end (check_inputs texts)
  no_stops end (inl stops) =
      no_stop found (input (Framework 1) texts.file) _
      (λ bytes reads. framework_sound bytes f reads) contents.of_framework end stops.0
  no_stops end (inr (passed, inl stops)) =
      no_stop found (input OfAnswer texts.answer) _
      (λ bytes reads. answer_sound bytes answer reads) contents.of_answer end stops.0
  no_stops end (inr (passed, inr (passed', inl stops))) =
      no_stop found (input OfCertificate texts.certificate) _
      (λ bytes reads. certificate_sound bytes certificate reads) contents.of_certificate end stops.0
  no_stops end (inr (passed, inr (passed', inr stops))) = stops.1

  checks_end : (end : Status) → ChecksFiles found.holds asked texts end → IsCheckEnd f asked answer certificate end
  checks_end end checks =
      check_end f asked answer certificate end
      (subst (λ g. CheckEnds g asked answer certificate end) (same_framework checks.framework checks.of_framework)
      (subst (λ a. CheckEnds checks.framework asked a certificate end) (same_answer checks.answer checks.of_answer)
      (subst (λ k. CheckEnds checks.framework asked checks.answer k end)
      (same_certificate checks.certificate checks.of_certificate) checks.ends)))

  pub ends_check : (kept : Transcript) (end : Status) → EndsCommand found (check_row found.holds (Some asked) texts)
      kept end
      → IsCheckEnd f asked answer certificate end
  ends_check kept end (inl (nothing, inl stops)) = absurd (no_stops end stops)
  ends_check kept end (inl (nothing, inr memory)) =
      let P : Status → Type 0 = IsCheckEnd f asked answer certificate in subst P (sym memory.0) tt
  ends_check kept end (inr checks) = checks_end end checks.1

-- ---- the ends of a query

module _ (found : Reading) (words : List (List ℕ)) (texts : SolveTexts) (query : Solving) (f : AnyFramework)
    (contents : SolvesContents found words texts query f) where
  same_read : (g : AnyFramework) → IsFrameworkOf (found.holds texts.file) g → g ≡ f
  same_read g is = framework_same found (input (Framework 1) texts.file) f g contents.of_framework is

  replied : (kept : Transcript) (end : Status) → EndsSolved (found.holds texts.file) query kept end
      → EndsAsReplied f query kept end
  replied kept end solved = record {
    session = solved.session;
    keeps = ap (λ (k : Transcript). k.session) solved.keeps;
    is = subst (λ g. IsSessionOf g query solved.session)
        (same_read solved.on.framework solved.on.of_framework) solved.on.is;
    ends = solved.ends;
  }

  solved_end : (kept : Transcript) (end : Status) → EndsAsReplied f query kept end → IsSolveEnd f query kept end
  solved_end kept Done ends = ends
  solved_end kept (InputRefused refusal) ends = ends
  solved_end kept Usage ends = ends
  solved_end kept (ReadFault r) ends = ends
  solved_end kept WriteFault ends = tt
  solved_end kept WantOfMemory ends = tt
  solved_end kept Unknown ends = ends
  solved_end kept (Limit l) ends = ends
  solved_end kept (Rejected rejection) ends = ends

  pub ends_solve : (kept : Transcript) (end : Status) → EndsQuery found texts query kept end
      → IsSolveEnd f query kept end
  ends_solve kept end (inl stops) =
      absurd (no_stop found (input (Framework 1) texts.file) _
      (λ bytes reads. framework_sound bytes f reads) contents.of_framework end stops)
  ends_solve kept end (inr (inl is)) =
      let P : Status → Type 0 = IsSolveEnd f query kept in subst P (sym is) tt
  ends_solve kept end (inr (inr ends)) = solved_end kept end (replied kept end ends)

-- ---- the laws of a script's run

-- why it may end so
abbrev pub EndsLiving : Reading → LiveTexts → ℕ → Transcript → Status → Type 0
EndsLiving found texts budget kept end =
    StopsAtFirst found end (live_inputs texts) ⊎ ((end ≡ WantOfMemory) ⊎ EndsLive found.holds budget texts kept end)

pub ends_living : (found : Reading) (texts : LiveTexts) (budget : ℕ) (kept : Transcript) (end : Status)
    → EndsCommand found (live_row found.holds (Some budget) texts) kept end → EndsLiving found texts budget kept end
ends_living found texts budget kept end (inl (nothing, inl stops)) = inl stops
ends_living found texts budget kept end (inl (nothing, inr memory)) = inr (inl memory.0)
ends_living found texts budget kept end (inr lives) = inr (inr lives)

module _ (found : Reading) (words : List (List ℕ)) (texts : LiveTexts) (budget : ℕ) (f : AnyFramework) (script : Script)
    (contents : LivesContents found words texts budget f script) where
  same_script : (s : Script) → IsScriptOf (found.holds texts.script) s → s ≡ script
  same_script s is =
      let has = contents.of_script in
      script_same 1 has.bytes s script
      (subst (λ bs. IsScript 1 bs s) (bytes_at (found.holds texts.script) has.bytes is.bytes has.known is.has) is.reads)
      has.reads

  neither_stops : (end : Status) → ¬ StopsAtFirst found end (live_inputs texts)
  neither_stops end (inl stops) =
      no_stop found (input (Framework 1) texts.file) _
      (λ bytes reads. framework_sound bytes f reads) contents.of_framework end stops.0
  neither_stops end (inr (passed, inl stops)) =
      no_stop found (input OfScript texts.script) _
      (λ bytes reads. script_sound bytes script reads) contents.of_script end stops.0
  neither_stops end (inr (passed, inr stops)) = stops.1

  keeps_transcript : (kept : Transcript) (end : Status) → EndsLive found.holds budget texts kept end
      → KeepsTranscript f script budget kept
  keeps_transcript kept end lives = record {
    transcript = lives.transcript;
    keeps = ap (λ (k : Transcript). k.script) lives.keeps;
    is = subst (λ g. IsTranscriptOf g script budget lives.transcript)
        (framework_same found (input (Framework 1) texts.file) f lives.runs.framework contents.of_framework
        lives.runs.of_framework)
        (subst (λ s. IsTranscriptOf lives.runs.framework s budget lives.transcript)
        (same_script lives.runs.script lives.runs.of_script) lives.runs.is);
  }

  -- with files that read as these, it is done, or wants memory
  pub ends_live : (kept : Transcript) (end : Status) → EndsLiving found texts budget kept end
      → IsLiveEnd f script budget kept end
  ends_live kept end (inl stops) = absurd (neither_stops end stops)
  ends_live kept end (inr (inl is)) =
      let P : Status → Type 0 = IsLiveEnd f script budget kept in subst P (sym is) tt
  ends_live kept end (inr (inr lives)) =
      let P : Status → Type 0 = IsLiveEnd f script budget kept in
      subst P (sym lives.ends) (keeps_transcript kept end lives)

module _ (found : Reading) (words : List (List ℕ)) (texts : LiveTexts) (budget : ℕ) (f : AnyFramework) (bytes : List ℕ)
    (kept : Transcript) (asks : ScriptsBytes found words texts budget f bytes) where
  -- faulty bytes are no script, and so are bytes over the limit
  no_script : (end : Status) → EndsLive found.holds budget texts kept end → ¬ IsFaultyScript bytes
  no_script end lives faulty =
      let of = lives.runs.of_script in
      let reads : IsScript 1 bytes lives.runs.script =
      subst (λ bs. IsScript 1 bs lives.runs.script) (bytes_at (found.holds texts.script) bytes of.bytes asks.known of.has)
      of.reads in
      (script_is_faultless 1 bytes lives.runs.script reads).none faulty.0 faulty.1 faulty.2

  no_long_script : (end : Status) → EndsLive found.holds budget texts kept end → MAX_INPUT < length bytes → ⊥
  no_long_script end lives long =
      let of = lives.runs.of_script in
      let short = within_at (found.holds texts.script) bytes of.bytes asks.known of.has in
      omega arith

  script_read : ¬ HasReadFault found (input OfScript texts.script)
  script_read h = ⊎_elim (λ served. h.unserved served) (λ uncounted. uncounted h.counted) asks.no_fault

  stops_at_script : (end : Status) → length bytes ≤ MAX_INPUT → StopsAt found end (input OfScript texts.script)
      → RefusesBytes OfScript bytes end
  stops_at_script (InputRefused (Line of line c)) short stops =
      (stops.0, first_at found (input OfScript texts.script) bytes line c asks.known stops.1)
  stops_at_script (InputRefused (Query fault)) short stops = stops
  stops_at_script (InputRefused UnknownName) short stops = stops
  stops_at_script (InputRefused (NoRefutation k)) short stops = stops
  stops_at_script (ReadFault of) short stops = absurd (script_read stops.1)
  stops_at_script (Limit limit.Input) short stops =
      let long = longer_at (found.holds texts.script) bytes asks.known stops in absurd (omega arith)
  stops_at_script (Limit limit.Extensions) short stops = stops
  stops_at_script (Limit limit.Log) short stops = stops
  stops_at_script Done short stops = stops
  stops_at_script Usage short stops = stops
  stops_at_script WriteFault short stops = tt
  stops_at_script WantOfMemory short stops = tt
  stops_at_script Unknown short stops = stops
  stops_at_script (Rejected rejection) short stops = stops

  -- faulty bytes within the limit are refused by their first fault
  pub refuses_script : (end : Status) → IsFaultyScript bytes → length bytes ≤ MAX_INPUT
      → EndsLiving found texts budget kept end → RefusesBytes OfScript bytes end
  refuses_script end faulty short (inl (inl stops)) =
      absurd (no_stop found (input (Framework 1) texts.file) _
      (λ bs reads. framework_sound bs f reads) asks.of_framework end stops.0)
  refuses_script end faulty short (inl (inr (passed, inl stops))) = stops_at_script end short stops.0
  refuses_script end faulty short (inl (inr (passed, inr stops))) = absurd stops.1
  refuses_script end faulty short (inr (inl is)) =
      let P : Status → Type 0 = RefusesBytes OfScript bytes in subst P (sym is) tt
  refuses_script end faulty short (inr (inr lives)) = absurd (no_script end lives faulty)

  stops_at_length : (end : Status) → MAX_INPUT < length bytes → StopsAt found end (input OfScript texts.script)
      → RefusesLength end
  stops_at_length (InputRefused (Line of line c)) long stops =
      let short = within_at (found.holds texts.script) bytes stops.1.bytes asks.known stops.1.has in absurd
      (omega arith)
  stops_at_length (InputRefused (Query fault)) long stops = stops
  stops_at_length (InputRefused UnknownName) long stops = stops
  stops_at_length (InputRefused (NoRefutation k)) long stops = stops
  stops_at_length (ReadFault of) long stops = absurd (script_read stops.1)
  stops_at_length (Limit limit.Input) long stops = tt
  stops_at_length (Limit limit.Extensions) long stops = stops
  stops_at_length (Limit limit.Log) long stops = stops
  stops_at_length Done long stops = stops
  stops_at_length Usage long stops = stops
  stops_at_length WriteFault long stops = tt
  stops_at_length WantOfMemory long stops = tt
  stops_at_length Unknown long stops = stops
  stops_at_length (Rejected rejection) long stops = stops

  -- bytes over the limit are refused for their length
  pub refuses_long_script : (end : Status) → MAX_INPUT < length bytes → EndsLiving found texts budget kept end
      → RefusesLength end
  refuses_long_script end long (inl (inl stops)) =
      absurd (no_stop found (input (Framework 1) texts.file) _
      (λ bs reads. framework_sound bs f reads) asks.of_framework end stops.0)
  refuses_long_script end long (inl (inr (passed, inl stops))) = stops_at_length end long stops.0
  refuses_long_script end long (inl (inr (passed, inr stops))) = absurd stops.1
  refuses_long_script end long (inr (inl is)) = subst RefusesLength (sym is) tt
  refuses_long_script end long (inr (inr lives)) = absurd (no_long_script end lives long)

-- ---- the laws of a large input's run

-- it is done, but for want of memory
pub large_done : (found : Reading) (large : LargeInput) (kept : Transcript) (end : Status)
    → EndsCommand found (bench_row (Some large)) kept end → IsDoneOrMemory end
large_done found large kept end (inl (nothing, inl stops)) = absurd stops
large_done found large kept end (inl (nothing, inr memory)) = subst IsDoneOrMemory (sym memory.0) tt
large_done found large kept end (inr runs) = subst IsDoneOrMemory (sym runs.ends) tt

-- where it is done, its sessions have run
pub ends_large : (found : Reading) (large : LargeInput) (kept : Transcript)
    → EndsCommand found (bench_row (Some large)) kept Done → EndsLarge large kept Done
ends_large found large kept (inl (nothing, inl stops)) = absurd stops
ends_large found large kept (inl (nothing, inr memory)) = absurd (done_no_memory memory.0)
ends_large found large kept (inr runs) = runs
