-- What the closed hub's history is to the sessions that were served.
use Rattle.std.proofs.Common.{arith, ◌≡◌, ℕ, zero, suc, ◌==◌, ◌+◌, List, [], ◌∷◌, true, false, refl, sym, ap}
use Rattle.std.proofs.Common.{subst, ◌∙◌}
use Rattle.std.specs.Prelude.{◌<◌, ◌≤◌, Result, Ok, Err, IfOk, All, Contains, length, map, take, filter, slice_index_or}
use Rattle.std.specs.List.{AllZip, range_with_len}
use Rattle.std.proofs.lemmas.Bool.Decides.{nat_tests}
use Rattle.std.proofs.lemmas.List.{get_or-map, get_or-take, length-map, length-take-le}
use Rattle.std.proofs.lemmas.List.FromFn.{get_or-range_with_len, length-range_with_len}
use Rattle.std.proofs.lemmas.List.Elements.{All-contains_itself, All-map, All-weaker}
use Rattle.lists.proofs.Filters.{filter_none, filter_whole}
use mathlib.Core.List.{IsPrefix}
use Rattle.semantics.specs.Frameworks.{Framework, IsNumbered}
use Rattle.turn_lock.specs.Seats.{list_of, number_of}
use Rattle.turn_lock.specs.Turns.{entries_of}
use Rattle.edit_history.specs.declared.entry.HistoryEntry.{HistoryEntry}
use Rattle.edit_history.specs.declared.hub.Hub.{Hub}
use Rattle.edit_history.specs.Entries.{AreDone, edit_count, entries_in, session_of}
use Rattle.edit_history.specs.Hubs.{AreSeatsOf, IsSeatAt, limit_of, sessions_of, start_of}
use Rattle.script_text.specs.declared.script.Script.{Script}
use Rattle.script_text.specs.declared.script.ScriptLine.{ScriptLine}
use Rattle.clause_pool.specs.declared.pool.Pool.{Pool}
use Rattle.clause_pool.specs.Pools.{AreInRow}
use Rattle.session_core.specs.declared.kept.Kept.{Kept}
use Rattle.session_core.specs.Sessions.{RestOnPool, seen_by, tokens_of}
use Rattle.session_replies.specs.declared.reply.Reply.{Reply}
use Rattle.bench_runs.specs.declared.script_run.TheConstants.{MAX_HISTORY}
use Rattle.bench_runs.specs.declared.runner.Runner.{Runner}
use Rattle.bench_runs.specs.declared.transcript.ScriptTranscript.{ScriptTranscript}
use Rattle.bench_runs.specs.Finishing.{IsFinished, kept_in, number_in}
use Rattle.bench_runs.specs.Running.{HasServed, stand_of}
use Rattle.bench_runs.specs.Served.{IsServed, LineEnds, entries_made, lines_of}
use Rattle.bench_runs.specs.Shared.{TakesFromPool}
use Rattle.bench_runs.specs.Transcripts.{AreSessions, IsTranscriptOf}
use Rattle.bench_runs.proofs.SharedLemmas.{imports_given}
use Rattle.bench_runs.proofs.ToldLemmas.{walked_served}

-- ---- an empty script

-- lines of no session are none
pub no_lines : (s count : ℕ) (lines : List ScriptLine) → AreSessions lines count → count < s
    → lines_of s lines ≡ []
no_lines s count lines are few =
    filter_none (λ (l : ScriptLine). l.session == s) lines
    (All-weaker (Contains lines) (λ l. (l.session == s) ≡ false)
    (λ l there. let low = are.each l there in grind (arith, nat_tests)) lines (All-contains_itself lines))

none_made : (s : ℕ) (lines : List ScriptLine) (replies : List Reply) → lines ≡ []
    → entries_made s lines replies ≡ []
none_made s lines replies none = rw none refl

-- entries of the session 1 alone are none where it has none
none_left : (entries : List HistoryEntry) → All (λ e. (0 < e.session) × (e.session ≤ 1)) entries
    → entries_of session_of 1 entries ≡ [] → entries ≡ []
none_left entries numbered none =
    sym (filter_whole (λ (e : HistoryEntry). session_of e == 1) entries
    (All-weaker (λ (e : HistoryEntry). (0 < e.session) × (e.session ≤ 1)) (λ e. (session_of e == 1) ≡ true)
    (λ e is. let low = is.0 in let high = is.1 in grind (arith, nat_tests)) entries numbered)) ∙ none

-- ---- one session

-- some runner stands at each index
some_runner : (runners : List Runner) (k : ℕ) → k < length runners → Runner
some_runner [] k low = absurd (omega (arith, low))
some_runner (runner ∷ more) k low = runner

-- the session at an index was served, as the whole history has it
record SeenWhole (hub : Hub) (budget : ℕ) (lines : List ScriptLine) (entries : List HistoryEntry) (r : Runner) (k : ℕ)
    : Type 0 where
  served : IsServed (start_of hub) (limit_of hub) budget (k + 1) (lines_of (k + 1) lines) entries r.session.engine.log
      r.session.answers.items r.replies

seen_whole : (hub : Hub) (pool : Pool) (budget : ℕ) (lines : List ScriptLine) (runners : List Runner)
    (t : ScriptTranscript) → All (HasServed hub pool budget lines) runners
    → map number_in runners ≡ range_with_len 1 (sessions_of hub)
    → (count : ℕ) → IsFinished hub pool runners count t → (k : ℕ) (inside : k < length runners)
    → SeenWhole hub budget lines (entries_in t.history.entries.items)
    (slice_index_or runners k (some_runner runners k inside)) k
seen_whole hub pool budget lines runners t all numbers count h k inside =
    let long : length runners ≡ sessions_of hub =
    sym (length-map runners number_in) ∙ (ap length numbers ∙ length-range_with_len 1 (sessions_of hub)) in
    let d = some_runner runners k inside in
    let r = slice_index_or runners k d in
    let served = all k d inside in
    let entries = entries_in t.history.entries.items in
    let number : r.session.number ≡ k + 1 =
    let numbered = sym (get_or-map number_in runners k d 0 inside)
    ∙ (ap (λ l. slice_index_or l k 0) numbers
    ∙ get_or-range_with_len 1 (sessions_of hub) k 0 (omega (arith, long, inside))) in
    omega (arith, numbered) in
    let seats = length-map runners (λ (r : Runner). r.session.seat) in
    let seat = get_or-map (λ (r : Runner). r.session.seat) runners k d d.session.seat inside in
    let longer : IsPrefix (seen_by r.session) entries =
    subst (λ s. IsPrefix (list_of s) entries) seat (h.history.lists k d.session.seat (omega (arith, seats, inside))) in
    let own = subst
    (λ s. entries_of session_of (number_of s) entries ≡ entries_of session_of (number_of s) (list_of s)) seat
    (h.history.own k d.session.seat (omega (arith, seats, inside))) in
    let own_here : entries_of session_of r.session.number entries
    ≡ entries_of session_of r.session.number (seen_by r.session) =
    subst (λ n. entries_of session_of n entries ≡ entries_of session_of n (seen_by r.session))
    served.ready.number own in
    let later = walked_served (start_of hub) (limit_of hub) budget r.session.number (lines_of r.session.number lines)
    r.replies entries (stand_of r.session) served.walks (record { longer = longer; own = own_here }) in
    record {
      served = subst (λ n. IsServed (start_of hub) (limit_of hub) budget n (lines_of n lines) entries
          r.session.engine.log r.session.answers.items r.replies) number later;
    }

-- what is told of the session at an index
served_at : (hub : Hub) (pool : Pool) (budget count : ℕ) (lines : List ScriptLine) (runners : List Runner)
    (t : ScriptTranscript) → All (HasServed hub pool budget lines) runners
    → map number_in runners ≡ range_with_len 1 (sessions_of hub)
    → count ≤ sessions_of hub → IsFinished hub pool runners count t → (k : ℕ) (none : List Reply) (nothing : Kept)
    → k < count
    → IsServed (start_of hub) (limit_of hub) budget (k + 1) (lines_of (k + 1) lines)
    (entries_in t.history.entries.items) (slice_index_or t.kept.items k nothing).engine.log
    (slice_index_or t.kept.items k nothing).answers.items
    (slice_index_or t.replies.items k none)
served_at hub pool budget count lines runners t all numbers few h k none nothing low =
    let long : length runners ≡ sessions_of hub =
    sym (length-map runners number_in) ∙ (ap length numbers ∙ length-range_with_len 1 (sessions_of hub)) in
    let inside : k < length runners = omega (arith, long, few, low) in
    let d = some_runner runners k inside in
    let r = slice_index_or runners k d in
    let kept : slice_index_or t.kept.items k nothing ≡ kept_in r =
    ap (λ l. slice_index_or l k nothing) h.kept
    ∙ (get_or-take count (map kept_in runners) k nothing low ∙ get_or-map kept_in runners k d nothing inside) in
    let replies : slice_index_or t.replies.items k none ≡ r.replies =
    ap (λ l. slice_index_or l k none) h.replies
    ∙ (get_or-take count (map (λ (r : Runner). r.replies) runners) k none low
    ∙ get_or-map (λ (r : Runner). r.replies) runners k d none inside) in
    rw (kept, replies) (seen_whole hub pool budget lines runners t all numbers count h k inside).served

-- what the session at an index took from others is in the pool
shared_at : (hub : Hub) (pool : Pool) (budget count : ℕ) (lines : List ScriptLine) (runners : List Runner)
    (t : ScriptTranscript) → All (HasServed hub pool budget lines) runners
    → map number_in runners ≡ range_with_len 1 (sessions_of hub) → count ≤ sessions_of hub
    → IsFinished hub pool runners count t → (k : ℕ) (nothing : Kept) → k < count
    → TakesFromPool t.pool (slice_index_or t.kept.items k nothing).engine.log
    (slice_index_or t.kept.items k nothing).answers.items
shared_at hub pool budget count lines runners t all numbers few h k nothing low =
    let long : length runners ≡ sessions_of hub =
    sym (length-map runners number_in) ∙ (ap length numbers ∙ length-range_with_len 1 (sessions_of hub)) in
    let inside : k < length runners = omega (arith, long, few, low) in
    let d = some_runner runners k inside in
    let r = slice_index_or runners k d in
    let kept : slice_index_or t.kept.items k nothing ≡ kept_in r =
    ap (λ l. slice_index_or l k nothing) h.kept
    ∙ (get_or-take count (map kept_in runners) k nothing low ∙ get_or-map kept_in runners k d nothing inside) in
    let served = all k d inside in
    let next : r.session.taken ≡ length (tokens_of r.session.answers.items) = omega (arith, served.row.next_is) in
    record {
      tokens = subst (λ (x : Kept). RestOnPool t.pool x.answers.items) (sym kept)
          (subst (λ p. RestOnPool p r.session.answers.items) (sym h.pool_is) served.pooled);
      row = subst (λ (x : Kept). AreInRow 0 (tokens_of x.answers.items) (length (tokens_of x.answers.items))) (sym kept)
          (subst (AreInRow 0 (tokens_of r.session.answers.items)) next served.row);
      imports = imports_given (start_of hub) (limit_of hub) budget (k + 1) (lines_of (k + 1) lines)
          (entries_in t.history.entries.items) (slice_index_or t.kept.items k nothing).engine.log
          (slice_index_or t.kept.items k nothing).answers.items (slice_index_or t.replies.items k [])
          (served_at hub pool budget count lines runners t all numbers few h k [] nothing low).walked;
    }

-- the only session of an empty script made no entry
alone_made : (hub : Hub) (pool : Pool) (budget : ℕ) (lines : List ScriptLine) (runners : List Runner)
    (t : ScriptTranscript) → All (HasServed hub pool budget lines) runners
    → map number_in runners ≡ range_with_len 1 (sessions_of hub)
    → AreSessions lines 0 → sessions_of hub ≡ 1 → IsFinished hub pool runners 0 t
    → entries_of session_of 1 (entries_in t.history.entries.items) ≡ []
alone_made hub pool budget lines runners t all numbers are single h =
    let long : length runners ≡ sessions_of hub =
    sym (length-map runners number_in) ∙ (ap length numbers ∙ length-range_with_len 1 (sessions_of hub)) in
    let inside : 0 < length runners = omega (arith, long, single) in
    let r = slice_index_or runners 0 (some_runner runners 0 inside) in
    let served = (seen_whole hub pool budget lines runners t all numbers 0 h 0 inside).served in
    let own : entries_of session_of (0 + 1) (entries_in t.history.entries.items)
    ≡ entries_made (0 + 1) (lines_of (0 + 1) lines) r.replies = served.own in
    own ∙ none_made 1 (lines_of 1 lines) r.replies (no_lines 1 0 lines are (omega arith))

-- ---- the transcript

-- a first part has its length
taken_long : {X : Type 0} → (count : ℕ) (xs taken : List X) → taken ≡ take count xs → count ≤ length xs
    → length taken ≡ count
taken_long count xs taken is few = ap length is ∙ length-take-le count xs few

-- the sessions that entries have are those that the script names
entries_numbered : (hub : Hub) (pool : Pool) (budget count : ℕ) (lines : List ScriptLine) (runners : List Runner)
    (t : ScriptTranscript) → All (HasServed hub pool budget lines) runners
    → map number_in runners ≡ range_with_len 1 (sessions_of hub) → AreSessions lines count → count ≤ sessions_of hub
    → 0 < sessions_of hub → (0 < count → sessions_of hub ≡ count) → (count ≡ 0 → sessions_of hub ≡ 1)
    → IsFinished hub pool runners count t
    → All (λ e. (0 < e.session) × (e.session ≤ count)) (entries_in t.history.entries.items)
entries_numbered hub pool budget zero lines runners t all numbers are few some least one h =
    let single = one refl in
    let entries = entries_in t.history.entries.items in
    let numbered : All (λ (e : HistoryEntry). (0 < e.session) × (e.session ≤ 1)) entries =
    subst (λ n. All (λ (e : HistoryEntry). (0 < e.session) × (e.session ≤ n)) entries) single h.history.numbered in
    let alone = alone_made hub pool budget lines runners t all numbers are single h in
    let none = none_left entries numbered alone in
    subst (λ l. All (λ (e : HistoryEntry). (0 < e.session) × (e.session ≤ 0)) l) (sym none)
    (λ k d low. absurd (omega (arith, low)))
entries_numbered hub pool budget (suc count) lines runners t all numbers are few some least one h =
    subst (λ n. All (λ (e : HistoryEntry). (0 < e.session) × (e.session ≤ n)) (entries_in t.history.entries.items))
    (least (omega arith)) h.history.numbered

pub transcript_is : (script : Script) (budget count : ℕ) (hub : Hub) (pool : Pool) (runners : List Runner)
    (t : ScriptTranscript) (f : Framework) → start_of hub ≡ f → limit_of hub ≡ MAX_HISTORY
    → AreSessions script.lines count
    → count ≤ sessions_of hub → 0 < sessions_of hub → (0 < count → sessions_of hub ≡ count)
    → (count ≡ 0 → sessions_of hub ≡ 1) → All (HasServed hub pool budget script.lines) runners
    → map number_in runners ≡ range_with_len 1 (sessions_of hub) → IsFinished hub pool runners count t
    → IsNumbered f → IsTranscriptOf f script budget t
transcript_is script budget count hub pool runners t f start limit are few some least one all numbers h form =
    let long : length runners ≡ sessions_of hub =
    sym (length-map runners number_in) ∙ (ap length numbers ∙ length-range_with_len 1 (sessions_of hub)) in
    record {
      form = form;
      opening = h.history.opening ∙ start;
      within = subst (λ n. edit_count (entries_in t.history.entries.items) ≤ n) limit h.history.within;
      taken = subst (λ g. AreDone g t.history.entries.items) start h.history.effects;
      sessions = count;
      sessions_are = are;
      numbered = entries_numbered hub pool budget count script.lines runners t all numbers are few some least one h;
      replies = taken_long count (map (λ (r : Runner). r.replies) runners) t.replies.items h.replies
          (omega (arith, long, few, length-map runners (λ (r : Runner). r.replies)));
      kept = taken_long count (map kept_in runners) t.kept.items h.kept
          (omega (arith, long, few, length-map runners kept_in));
      served = λ k none nothing low.
          subst (λ n. IsServed f n budget (k + 1) (lines_of (k + 1) script.lines) (entries_in t.history.entries.items)
          (slice_index_or t.kept.items k nothing).engine.log (slice_index_or t.kept.items k nothing).answers.items
          (slice_index_or t.replies.items k none)) limit
          (subst (λ g. IsServed g (limit_of hub) budget (k + 1) (lines_of (k + 1) script.lines)
          (entries_in t.history.entries.items) (slice_index_or t.kept.items k nothing).engine.log
          (slice_index_or t.kept.items k nothing).answers.items (slice_index_or t.replies.items k none)) start
          (served_at hub pool budget count script.lines runners t all numbers few h k none nothing low));
      shared = λ k nothing low. shared_at hub pool budget count script.lines runners t all numbers few h k nothing low;
    }

-- ---- the seats

numbers_same : (hub : Hub) (pool : Pool) (budget : ℕ) (lines : List ScriptLine) (runners : List Runner)
    → All (HasServed hub pool budget lines) runners
    → map (λ s. number_of s) (map (λ (r : Runner). r.session.seat) runners) ≡ map number_in runners
numbers_same hub pool budget lines [] all = refl
numbers_same hub pool budget lines (r ∷ rest) all =
    let first = all 0 r (omega arith) in
    ap (λ n. n ∷ map (λ s. number_of s) (map (λ (r : Runner). r.session.seat) rest)) first.ready.number
    ∙ ap (λ l. r.session.number ∷ l)
    (numbers_same hub pool budget lines rest (λ k d low. all (suc k) d (omega (arith, low))))

-- the sessions have all the seats of the hub
pub all_seats : (hub : Hub) (pool : Pool) (budget : ℕ) (lines : List ScriptLine) (runners : List Runner)
    → All (HasServed hub pool budget lines) runners → map number_in runners ≡ range_with_len 1 (sessions_of hub)
    → AreSeatsOf hub (map (λ (r : Runner). r.session.seat) runners)
all_seats hub pool budget lines runners all numbers = record {
  each = All-map (λ s. IsSeatAt hub s) (λ (r : Runner). r.session.seat) runners
      (All-weaker (HasServed hub pool budget lines) (λ r. IsSeatAt hub r.session.seat) (λ r h. h.ready.seat) runners
      all);
  numbers = numbers_same hub pool budget lines runners all ∙ numbers;
}

pub if_ok : {T E : Type 0} → (r : Result T E) (P Q : T → Type 0) → IfOk r P → ((x : T) → P x → Q x) → IfOk r Q
if_ok (Ok x) P Q h more = more x h
if_ok (Err e) P Q h more = tt
