-- What is counted of any run of a large input, and that it may be counted.
use Rattle.std.proofs.Common.{arith, Result, Ok, Err, IfOk, ◌≡◌, ℕ, zero, suc, ◌+◌, ◌*◌, ◌^◌, ◌<◌, ◌≤◌, List, []}
use Rattle.std.proofs.Common.{◌∷◌, Contains, length, get_or, refl, sym, ap, subst, ◌∙◌, ⊎_elim}
use Rattle.std.specs.Prelude.{All, ◌⊎◌, ◌==◌, count_by, filter, min}
use Rattle.std.specs.List.{AllZip, range_with_len, sum_by}
use Rattle.std.proofs.lemmas.List.{get_or_default, length-map}
use Rattle.std.proofs.lemmas.List.FromFn.{length-range_with_len}
use Rattle.std.proofs.lemmas.List.Sums.{count_by-le-length, length-filter, sum_by-cons}
use Rattle.semantics.specs.Framework.{Af}
use Rattle.semantics.specs.Frameworks.{Framework as AnyFramework, af}
use Rattle.certificate_claims.specs.Rights.{IsExtension}
use Rattle.iccma_tasks.specs.declared.task.Semantics.TheVariants.{Grounded}
use Rattle.edit_rules.specs.Kinds.{framework_of}
use Rattle.edit_history.specs.declared.entry.Change.{Change}
use Rattle.edit_history.specs.Entries.{entries_in, entry_of, framework_after}
use Rattle.script_text.specs.declared.script.Script.{Script}
use Rattle.script_text.specs.declared.script.ScriptLine.{ScriptLine}
use Rattle.script_text.specs.declared.script.TheConstants.{MAX_SESSIONS}
use Rattle.edit_rules.specs.declared.edit.Edit.TheVariants.{AttackDrop}
use Rattle.bench_runs.specs.session_core.specs.declared.kept.Kept.{Kept}
use Rattle.session_replies.specs.declared.reply.Reply.{Reply}
use Rattle.bench_runs.specs.Served.{FrontsRise, LineEnds, lines_of}
use Rattle.bench_runs.specs.Transcripts.{AreSessions, IsTranscriptOf}
use Rattle.bench_runs.specs.declared.script_run.TheConstants.{MAX_HISTORY}
use Rattle.bench_runs.specs.declared.transcript.ScriptTranscript.{ScriptTranscript}
use Rattle.bench_runs.specs.Generator.{bench_framework, first}
use Rattle.bench_runs.specs.Scripts.{asked_about, bench_script, line_for, single}
use Rattle.bench_runs.specs.declared.input.TheConstants.{MAX_ARGUMENTS}
use Rattle.bench_runs.proofs.ScriptLines.{dropped_in, script_long, sessions_few}
use Rattle.bench_runs.specs.declared.counts.Counts.{Counts}
use Rattle.bench_runs.specs.declared.run.BenchRun.{BenchRun}
use Rattle.bench_runs.specs.declared.run.TheConstants.{BENCH_BUDGET}
use Rattle.bench_runs.specs.Laws.{EditsAreTaken, IsUndisturbed}
use Rattle.bench_runs.specs.Taken.{IsTakenOn}
use Rattle.bench_runs.specs.Runs.{AreCounts, IsBenchRun}
use Rattle.bench_runs.specs.Summaries.{AreRejected, IsGroundedSize, bench_counts, counts_text, queries_told, summary}
use Rattle.bench_runs.proofs.EndLemmas.{history_long, same_at_end}
use Rattle.bench_runs.proofs.ListLemmas.{some_item, zip_long}
use Rattle.bench_runs.proofs.SummaryLemmas.{none_grounded, queries_long, rejected_none}
use Rattle.bench_runs.proofs.TakenLemmas.{IsHistoryOf, all_taken}

sum_at_most : {X : Type 0} (g : X → ℕ) (most : ℕ) (xs : List X)
    → ((k : ℕ) (d : X) → k < length xs → g (get_or xs k d) ≤ most)
    → sum_by g xs ≤ most * length xs
sum_at_most g most [] each = omega arith
sum_at_most g most (x ∷ xs) each =
    let here = each 0 x (omega arith) in
    let rest = sum_at_most g most xs (λ k d lt. each (suc k) d (omega arith)) in
    let sum = sum_by-cons g x xs in
    grind arith

at_most : (lines : List ScriptLine) (count : ℕ) → AreSessions lines count
    → ((line : ScriptLine) → Contains lines line → line.session ≤ 4) → count ≤ 4
at_most lines count are each =
    ⊎_elim (λ (e : count ≡ 0). omega arith)
    (λ (named : (line : ScriptLine) × Contains lines line × (line.session ≡ count)).
    let four = each named.0 named.1 in omega (arith, four, named.2)) are.named

-- what the counting of a transcript needs to know of it
pub record MayCount (history : List Change) (sessions : List (List Reply)) : Type 0 where
  pub rise : All (λ replies. FrontsRise 0 replies (length history)) sessions
  pub few : length sessions ≤ MAX_SESSIONS
  pub short : sum_by length sessions < 2 ^ 32
  pub queries : queries_told sessions < 2 ^ 32

module _ (n seed budget : ℕ) (t : ScriptTranscript) (some : 1 ≤ n) (few : n ≤ MAX_ARGUMENTS)
    (is : IsTranscriptOf (af (bench_framework n seed)) (bench_script n seed) budget t) where
  abbrev history : List Change
  history = t.history.entries.items

  some_session : 1 ≤ is.sessions
  some_session =
      let line = line_for 1 (single (AttackDrop (first n seed 1) 1)) in
      let there = dropped_in n seed (suc zero) (omega arith) (omega arith) in
      let low = (sessions_few n seed line there).0 in
      let high = is.sessions_are.each line there in
      omega arith

  abbrev nothing : Kept
  nothing = some_item t.kept.items (omega (arith, some_session, is.kept))

  served : IsHistoryOf n seed MAX_HISTORY budget is.sessions (entries_in history) (λ k. get_or t.replies.items k [])
      (λ k. (get_or t.kept.items k nothing).engine.log) (λ k. (get_or t.kept.items k nothing).answers.items)
  served = record {
    some = omega arith;
    few = omega arith;
    room = omega arith;
    named = is.sessions_are.each;
    numbered = is.numbered;
    served = λ k lt. is.served k [] nothing lt;
  }

  few_sessions : is.sessions ≤ 4
  few_sessions = at_most (bench_script n seed).lines is.sessions is.sessions_are
      (λ line c. (sessions_few n seed line c).1)

  replies_long : (k : ℕ) → k < is.sessions → length (get_or t.replies.items k []) ≤ 128
  replies_long k lt =
      let log = (get_or t.kept.items k nothing).engine.log in
      let answers = (get_or t.kept.items k nothing).answers.items in
      let lines = lines_of (k + 1) (bench_script n seed).lines in
      let told = zip_long (LineEnds (af (bench_framework n seed)) MAX_HISTORY budget (k + 1)
      (entries_in history) log answers)
      lines (get_or t.replies.items k []) (is.served k [] nothing lt).each in
      let own = length-filter (λ (l : ScriptLine). l.session == k + 1) (bench_script n seed).lines in
      let some_of = count_by-le-length (λ (l : ScriptLine). l.session == k + 1) (bench_script n seed).lines in
      let all = script_long n seed in
      omega (arith, told, own, some_of, all)

  pub may_count : MayCount history t.replies.items
  may_count =
      let long = is.replies in
      let size = length-map history entry_of in
      let queries = queries_long n seed MAX_HISTORY budget is.sessions (entries_in history) t.replies.items
      (λ k. (get_or t.kept.items k nothing).engine.log) (λ k. (get_or t.kept.items k nothing).answers.items) is.replies
      served in
      let four = few_sessions in
      let total = sum_at_most length 128 t.replies.items (λ k d lt.
      subst (λ l. length l ≤ 128) (get_or_default t.replies.items k [] d lt)
      (replies_long k (omega (arith, long, lt)))) in
      record {
        rise = λ k d lt.
            subst (λ l. FrontsRise 0 l (length history)) (get_or_default t.replies.items k [] d lt)
            (subst (λ m. FrontsRise 0 (get_or t.replies.items k []) m) size
            (is.served k [] nothing (omega (arith, long, lt))).rise);
        few = omega arith;
        short = omega arith;
        queries = omega arith;
      }

  pub all_undisturbed : IsUndisturbed n seed t
  all_undisturbed =
      let long = is.replies in
      record {
        taken = λ k none lt.
            subst (λ replies. AllZip (λ line reply. IsTakenOn line.command reply.body)
            (lines_of (k + 1) (bench_script n seed).lines) replies) (get_or_default t.replies.items k [] none lt)
            (all_taken n seed MAX_HISTORY budget is.sessions (entries_in history) (λ k. get_or t.replies.items k [])
            (λ k. (get_or t.kept.items k nothing).engine.log) (λ k. (get_or t.kept.items k nothing).answers.items)
            served k
            (omega (arith, long, lt)));
        entries = sym (length-map history entry_of)
            ∙ history_long n seed MAX_HISTORY budget is.sessions (entries_in history) (λ k. get_or t.replies.items k [])
            (λ k. (get_or t.kept.items k nothing).engine.log) (λ k. (get_or t.kept.items k nothing).answers.items)
            served;
        same = same_at_end n seed MAX_HISTORY budget is.sessions (entries_in history)
            (λ k. get_or t.replies.items k []) (λ k. (get_or t.kept.items k nothing).engine.log)
            (λ k. (get_or t.kept.items k nothing).answers.items) served;
      }

  -- whatever the run, this is counted of it
  pub counts_are : (counts : Counts) → AreCounts (bench_framework n seed) (bench_script n seed) t counts
      → counts ≡ bench_counts n seed
  counts_are counts are =
      let arguments : counts.arguments ≡ n = are.arguments ∙ length-range_with_len 1 n in
      let edits : counts.edits ≡ 2 * asked_about n = are.edits ∙ all_undisturbed.entries in
      let queries : counts.queries ≡ 2 * asked_about n =
      are.queries
      ∙ queries_long n seed MAX_HISTORY budget is.sessions (entries_in history) t.replies.items
      (λ k. (get_or t.kept.items k nothing).engine.log) (λ k. (get_or t.kept.items k nothing).answers.items) is.replies
      served in
      let rejected : counts.rejected ≡ 0 =
      rejected_none n seed MAX_HISTORY budget is.sessions (entries_in history) t.replies.items
      (λ k. (get_or t.kept.items k nothing).engine.log) (λ k. (get_or t.kept.items k nothing).answers.items) is.replies
      served counts.rejected are.rejected in
      let grounded : counts.grounded ≡ 0 =
      are.grounded.size_is
      ∙ none_grounded n seed are.grounded.set
      (subst (λ g. IsExtension g Grounded are.grounded.set) all_undisturbed.same are.grounded.grounded) in
      λ i. record {
        arguments = arguments i;
        attacks = are.attacks i;
        edits = edits i;
        queries = queries i;
        rejected = rejected i;
        grounded = grounded i;
      }

pub undisturbed : EditsAreTaken
undisturbed n seed budget t some few is = all_undisturbed n seed budget t some few is

run_counts : (n seed : ℕ) → 1 ≤ n → n ≤ MAX_ARGUMENTS → (run : BenchRun) → IsBenchRun n seed run
    → run.counts ≡ bench_counts n seed
run_counts n seed some few run is = counts_are n seed BENCH_BUDGET run.transcript some few is.transcript run.counts
    is.counts

pub counts_told : {E : Type 0} (n seed : ℕ) (r : Result BenchRun E) → 1 ≤ n → n ≤ MAX_ARGUMENTS
    → IfOk r (IsBenchRun n seed) → IfOk r (λ run. run.counts ≡ bench_counts n seed)
counts_told n seed (Ok run) some few is = run_counts n seed some few run is
counts_told n seed (Err e) some few is = is

pub summary_told : {E : Type 0} (n seed : ℕ) (r : Result BenchRun E) → 1 ≤ n → n ≤ MAX_ARGUMENTS
    → IfOk r (IsBenchRun n seed) → IfOk r (λ run. run.summary ≡ summary n seed)
summary_told n seed (Ok run) some few is = is.text ∙ ap counts_text (run_counts n seed some few run is)
summary_told n seed (Err e) some few is = is

-- what is counted of the parts of a transcript is counted of it
pub all_counted : (f : Af) (script : Script) (t : ScriptTranscript) (opening : AnyFramework) (history : List Change)
    (lines : List ScriptLine) (replies : List (List Reply)) (arguments attacks edits queries rejected grounded : ℕ)
    → opening ≡ af f → history ≡ t.history.entries.items → lines ≡ script.lines → replies ≡ t.replies.items
    → ((g : Af) → opening ≡ af g → arguments ≡ length g.live) → ((g : Af) → opening ≡ af g → attacks ≡ length g.attacks)
    → edits ≡ length history → queries ≡ queries_told replies
    → AreRejected opening (entries_in history) lines 1 replies rejected
    → IsGroundedSize (framework_after opening (entries_in history)) grounded
    → AreCounts f script t (record {
      arguments = arguments;
      attacks = attacks;
      edits = edits;
      queries = queries;
      rejected = rejected;
      grounded = grounded;
    })
all_counted f script t opening history lines replies arguments attacks edits queries rejected grounded is_f is_h is_l
    is_r
    lives attack long told checked size = record {
      arguments = lives f is_f;
      attacks = attack f is_f;
      edits = long ∙ ap length is_h;
      queries = told ∙ ap queries_told is_r;
      rejected =
          subst (λ g. AreRejected g (entries_in t.history.entries.items) script.lines 1 t.replies.items rejected) is_f
          (subst (λ h. AreRejected opening (entries_in h) script.lines 1 t.replies.items rejected) is_h
          (subst (λ l. AreRejected opening (entries_in history) l 1 t.replies.items rejected) is_l
          (subst (λ r. AreRejected opening (entries_in history) lines 1 r rejected) is_r checked)));
      grounded =
          subst (λ g. IsGroundedSize (framework_after g (entries_in t.history.entries.items)) grounded) is_f
          (subst (λ h. IsGroundedSize (framework_after opening (entries_in h)) grounded) is_h size);
    }
