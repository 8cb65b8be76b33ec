-- Each session of a transcript is a run of the core.
use Rattle.std.proofs.Common.{arith, ◌≡◌, ℕ, zero, suc, ◌+◌, ◌-◌, ◌==◌, ◌<◌, ◌≤◌, List, [], ◌∷◌, ◌++◌, refl, sym, ap, subst}
use Rattle.std.proofs.Common.{◌∙◌, length, take, get_or, Bool, Ok, ⊎_elim}
use Rattle.std.specs.Prelude.{All, Contains, Option, Some, option_map, slice_get, slice_index_or}
use Rattle.std.proofs.lemmas.Bool.{cond_both, eq-eqb, eqb-true}
use Rattle.std.proofs.lemmas.List.{append-nil, append_assoc, get_or-map, length-append, length-map}
use Rattle.std.proofs.lemmas.List.Elements.{Contains-append_cases, Contains-append_left, Contains-append_right}
use Rattle.std.proofs.lemmas.List.Elements.{Contains-get_or, Contains-push, filter-append}
use Rattle.std.proofs.lemmas.Option.{slice_get-get_or}
use Rattle.std.proofs.Math.Seq.{take-append_seam}
use mathlib.Core.List.{IsPrefix}
use Rattle.semantics.specs.Frameworks.{Framework}
use Rattle.iccma_tasks.specs.Tasks.{Asked}
use Rattle.edit_rules.specs.declared.edit.Edit.{Edit}
use Rattle.edit_rules.specs.declared.effect.Effect.{Effect}
use Rattle.edit_rules.specs.Groups.{group_told}
use Rattle.lists.proofs.Filters.{Contains-filter}
use Rattle.lists.proofs.Membership.{Contains-nil}
use Rattle.turn_lock.specs.Turns.{entries_of}
use Rattle.edit_history.specs.declared.entry.Change.{Change}
use Rattle.edit_history.specs.declared.entry.HistoryEntry.{HistoryEntry}
use Rattle.edit_history.specs.Entries.{AreDone, IsGroup, edit_count, edits_in, edits_of, entries_in}
use Rattle.edit_history.specs.Entries.{entry_of as of_change, framework_after, session_of}
use Rattle.edit_history.specs.Hubs.{GainsOthers}
use Rattle.oracle_face.specs.declared.entry.Entry.{Entry as PoolEntry}
use Rattle.oracle_face.specs.Logs.{OracleLog}
use Rattle.clause_pool.specs.Pools.{AreInRow, entry_of, index_of}
use Rattle.script_text.specs.declared.script.Script.{Script}
use Rattle.script_text.specs.declared.script.ScriptCommand.{ScriptCommand}
use Rattle.script_text.specs.declared.script.ScriptCommand.TheVariants.{Edit as change_by, Ask}
use Rattle.script_text.specs.declared.script.ScriptLine.{ScriptLine}
use Rattle.core_machine.specs.Core.{Core, CoreSession}
use Rattle.core_machine.specs.Steps.{Event, Runs, after_turn, answer, commit, committed, goes, refresh, rests, taken_by}
use Rattle.session_replies.specs.declared.reply.Body.{Body}
use Rattle.session_replies.specs.declared.reply.Body.TheVariants.{Done, EditRefused, Full, Answered, QueryRefused}
use Rattle.session_replies.specs.declared.reply.Body.TheVariants.{Unknown, TooMany, LogFull}
use Rattle.session_replies.specs.declared.reply.Reply.{Reply}
use Rattle.semantics.specs.declared.limits.TheConstants.{MAX_EXTENSIONS}
use Rattle.session_core.specs.CoreRuns.{HasPooled, IsAtRest, IsQueryOn, StandsAt}
use Rattle.session_core.specs.EditRuns.{added_by}
use Rattle.session_core.specs.Replies.{EditSays}
use Rattle.session_core.specs.Sessions.{tokens_of}
use Rattle.clause_pool.specs.declared.pooled.Token.{Token}
use Rattle.session_core.specs.declared.kept.Kept.{Kept}
use Rattle.session_core.specs.declared.kept.KeptAnswer.{KeptAnswer}
use Rattle.session_core.proofs.AskRuns.{queries_run}
use Rattle.session_core.proofs.EditRunLemmas.{edits_run, with_room}
use Rattle.session_core.proofs.FollowingLemmas.{edits_joined, group_at}
use Rattle.hinted_log.specs.declared.log.TheConstants.{MAX_STEPS}
use Rattle.bench_runs.specs.CoreWalks.{RunsLine, RunsLines, SessionsAreRuns, begun, commits_of}
use Rattle.bench_runs.specs.Served.{entries_made, lines_of, made_by}
use Rattle.bench_runs.specs.Transcripts.{IsTranscriptOf}
use Rattle.bench_runs.specs.declared.transcript.ScriptTranscript.{ScriptTranscript}
use Rattle.bench_runs.specs.declared.script_run.TheConstants.{MAX_HISTORY}
use Rattle.bench_runs.specs.Walks.{DoesCommand, DoesEdit, DoesQuery, Stand, Walks, at_start}
use Rattle.bench_runs.proofs.ListLemmas.{some_item}
use Rattle.bench_runs.proofs.MadeLemmas.{made_here}
use Rattle.bench_runs.proofs.ServedLemmas.{prefix_on, prefix_short}
use Rattle.bench_runs.proofs.ToldLemmas.{done_by}

-- ---- runs

runs_append : (a b c : Core) (events more : List Event) (first then : List HistoryEntry) → Runs a events first b
    → Runs b more then c → Runs a (events ++ more) (first ++ then) c
runs_append a b c events more first then (rests _) second = second
runs_append a b c events more first then (goes _ mid _ event behind later step runs) second =
    subst (λ taken. Runs a (event ∷ (behind ++ more)) taken c) (sym (append_assoc (taken_by a event) later then))
    (goes a mid c event (behind ++ more) (later ++ then) step (runs_append mid b c behind more later then runs second))

-- a turn changes no log, and not where the last answer stands
turn_log : (core : Core) (s : ℕ) (entries : List HistoryEntry) (n : ℕ)
    → ((after_turn core s entries).sessions n).log ≡ (core.sessions n).log
turn_log core s entries n =
    let session : CoreSession = record (core.sessions s) { seen = length (core.history ++ entries) } in
    cond_both (n == s) session (core.sessions n) (λ (x : CoreSession). x.log ≡ (core.sessions n).log)
    (λ is. ap (λ k. (core.sessions k).log) (sym (eqb-true n s is))) (λ other. refl)

turn_answered : (core : Core) (s : ℕ) (entries : List HistoryEntry) (n : ℕ)
    → ((after_turn core s entries).sessions n).answered ≡ (core.sessions n).answered
turn_answered core s entries n =
    let session : CoreSession = record (core.sessions s) { seen = length (core.history ++ entries) } in
    cond_both (n == s) session (core.sessions n) (λ (x : CoreSession). x.answered ≡ (core.sessions n).answered)
    (λ is. ap (λ k. (core.sessions k).answered) (sym (eqb-true n s is))) (λ other. refl)

-- ---- entries that come

-- the entries may come behind those before them: each is a group, there is room for it, and it is taken
abbrev AreComing : Framework → ℕ → List HistoryEntry → List HistoryEntry → Type 0
AreComing f limit before [] = Unit {0}
AreComing f limit before (e ∷ more) =
    IsGroup e.edits × (edit_count before + length e.edits ≤ limit)
    × ((effects : List Effect) × (group_told (framework_after f before) e.edits ≡ Ok effects))
    × AreComing f limit (before ++ e ∷ []) more

record IsCommittedTo (core end : Core) (more : List HistoryEntry) : Type 0 where
  opening : end.opening ≡ core.opening
  limit : end.limit ≡ core.limit
  pool : end.pool ≡ core.pool
  history : end.history ≡ core.history ++ more
  log : (n : ℕ) → (end.sessions n).log ≡ (core.sessions n).log
  answered : (n : ℕ) → (end.sessions n).answered ≡ (core.sessions n).answered

commits_run : (more : List HistoryEntry) (core : Core) → AreComing core.opening core.limit core.history more
    → (end : Core) × Runs core (commits_of more) more end × IsCommittedTo core end more
commits_run [] core are = (
  core,
  rests core,
  record {
    opening = refl;
    limit = refl;
    pool = refl;
    history = sym (append-nil core.history);
    log = λ n. refl;
    answered = λ n. refl;
  },
)
commits_run (e ∷ more) core are =
    let mid = after_turn core e.session (e ∷ []) in
    let made : committed core e.session e.edits ≡ e ∷ [] =
    with_room core e.session e.edits (Ok are.2.0) are.1 are.2.1 in
    let rest = commits_run more mid are.3 in
    let to = rest.2 in (
      rest.0,
      subst (λ entries. Runs core (commit e.session e.edits ∷ commits_of more) (entries ++ more) rest.0) made
          (goes core mid rest.0 (commit e.session e.edits) (commits_of more) more
          (are.0, ap (after_turn core e.session) (sym made)) rest.1),
      record {
        opening = to.opening;
        limit = to.limit;
        pool = to.pool;
        history = to.history ∙ append_assoc core.history (e ∷ []) more;
        log = λ n. to.log n ∙ turn_log core e.session (e ∷ []) n;
        answered = λ n. to.answered n ∙ turn_answered core e.session (e ∷ []) n;
      },
    )

seam : (xs : List HistoryEntry) (x : HistoryEntry) (ys : List HistoryEntry)
    → get_or (xs ++ x ∷ ys) (length xs) x ≡ x
seam [] x ys = refl
seam (y ∷ xs) x ys = seam xs x ys

some_change : (changes : List Change) → 0 < length changes → Change
some_change [] lt = absurd (omega (arith, lt))
some_change (c ∷ changes) lt = c

-- what stands in a history came so
are_coming : (f : Framework) (limit : ℕ) (changes : List Change) → AreDone f changes
    → edit_count (entries_in changes) ≤ limit → All (λ (e : HistoryEntry). IsGroup e.edits) (entries_in changes)
    → (before more rest : List HistoryEntry) → before ++ (more ++ rest) ≡ entries_in changes
    → AreComing f limit before more
are_coming f limit changes done few groups before [] rest e = tt
are_coming f limit changes done few groups before (x ∷ more) rest e =
    let n = length before in
    let within : n < length changes =
    omega (arith, ap length e, length-append before (x ∷ (more ++ rest)), length-map changes of_change) in
    let d = some_change changes (omega (arith, within)) in
    let c = get_or changes n d in
    let front : take n (entries_in changes) ≡ before =
    ap (take n) (sym e) ∙ take-append_seam before (x ∷ (more ++ rest)) in
    let here : get_or (entries_in changes) n x ≡ x = ap (λ l. get_or l n x) (sym e) ∙ seam before x (more ++ rest) in
    let there : get_or (entries_in changes) n x ≡ of_change c = get_or-map of_change changes n d x within in
    let same : edits_in c.effects ≡ x.edits = ap (λ (y : HistoryEntry). y.edits) (sym there ∙ here) in
    let group = groups n x (omega (arith, within, length-map changes of_change)) in
    let all = ap edit_count (sym e) ∙ ap length (edits_joined before (x ∷ (more ++ rest)))
    ∙ length-append (edits_of before) (x.edits ++ edits_of (more ++ rest)) in
    let behind = length-append x.edits (edits_of (more ++ rest)) in (
      subst (λ (y : HistoryEntry). IsGroup y.edits) here group,
      omega (arith, few, all, behind),
      (
        c.effects,
        subst (λ edits. group_told (framework_after f before) edits ≡ Ok c.effects) same
            (subst (λ l. group_told (framework_after f l) (edits_in c.effects) ≡ Ok c.effects) front
            (group_at f n changes d done within)),
      ),
      are_coming f limit changes done few groups (before ++ x ∷ []) more rest
          (append_assoc before (x ∷ []) (more ++ rest) ∙ e),
    )

none_behind : (xs ys : List HistoryEntry) → xs ++ ys ≡ xs → ys ≡ []
none_behind xs [] e = refl
none_behind xs (y ∷ ys) e = absurd (omega (arith, ap length e, length-append xs (y ∷ ys)))

are_foreign : (s : ℕ) (before now : List HistoryEntry) (gained : GainsOthers s before now)
    → entries_of session_of s gained.longer.0 ≡ []
are_foreign s before now gained =
    let more = gained.longer.0 in
    none_behind (entries_of session_of s before) (entries_of session_of s more)
    (sym (filter-append (λ (e : HistoryEntry). session_of e == s) before more)
    ∙ (ap (entries_of session_of s) gained.longer.1 ∙ gained.own))

-- ---- edits

-- the history that edits found, and what they added
record IsFound (s : ℕ) (edits : List Edit) (before now : List HistoryEntry) (body : Body) : Type 0 where
  found : List HistoryEntry
  gained : GainsOthers s before found
  added : found ++ added_by s edits body ≡ now

found_of : (grouped : Bool) (limit : ℕ) (f : Framework) (s : ℕ) (edits : List Edit) (before now : List HistoryEntry)
    (body : Body) → EditSays grouped limit f s edits before now body → IsFound s edits before now body
found_of grouped limit f s edits before now (Done effects) says =
    record { found = says.found; gained = says.gained; added = sym says.added.longer }
found_of grouped limit f s edits before now (EditRefused told fault) says =
    record { found = now; gained = says.0; added = append-nil now }
found_of grouped limit f s edits before now Full says =
    record { found = now; gained = says.0; added = append-nil now }
found_of grouped limit f s edits before now (Answered given certificate) says = absurd says
found_of grouped limit f s edits before now (QueryRefused fault) says = absurd says
found_of grouped limit f s edits before now (Unknown count) says = absurd says
found_of grouped limit f s edits before now TooMany says = absurd says
found_of grouped limit f s edits before now LogFull says = absurd says

made_same : (s : ℕ) (edits : List Edit) (grouped : Bool) (body : Body)
    → added_by s edits body ≡ made_by s (change_by edits grouped) body
made_same s edits grouped (Done effects) = refl
made_same s edits grouped (EditRefused told fault) = refl
made_same s edits grouped Full = refl
made_same s edits grouped (Answered given certificate) = refl
made_same s edits grouped (QueryRefused fault) = refl
made_same s edits grouped (Unknown count) = refl
made_same s edits grouped TooMany = refl
made_same s edits grouped LogFull = refl

-- ---- the lines of a session

module _ (f : Framework) (limit budget s : ℕ) (changes : List Change) (done : AreDone f changes)
    (few : edit_count (entries_in changes) ≤ limit)
    (groups : All (λ (e : HistoryEntry). IsGroup e.edits) (entries_in changes)) (start : Core)
    (answers : List KeptAnswer)
    (pooled : (kept : KeptAnswer) → Contains answers kept → HasPooled start kept.tokens) where
  -- the session stands in the core as it does between two lines
  record StandsIn (core : Core) (stand : Stand) : Type 0 where
    at : StandsAt core s f stand.seen stand.log
    limit_is : core.limit ≡ limit
    pool_is : core.pool ≡ start.pool
    followed : stand.followed ≤ length stand.seen

  -- other sessions' entries have come
  record OthersCame (core : Core) (old : Stand) (now more : List HistoryEntry) : Type 0 where
    mid : Core
    runs : Runs core (commits_of more) more mid
    at : StandsAt mid s f now old.log
    limit_is : mid.limit ≡ limit
    pool_is : mid.pool ≡ start.pool

  others_come : (core : Core) (old : Stand) (now : List HistoryEntry) → StandsIn core old
      → (one : IsPrefix old.seen now) → IsPrefix now (entries_in changes) → OthersCame core old now one.0
  others_come core old now h one on =
      let more = one.0 in
      let whole : old.seen ++ (more ++ on.0) ≡ entries_in changes =
      sym (append_assoc old.seen more on.0) ∙ (ap (λ l. l ++ on.0) one.1 ∙ on.1) in
      let coming = are_coming f limit changes done few groups old.seen more on.0 whole in
      let ran = commits_run more core
      (subst (λ g. AreComing g core.limit core.history more) (sym h.at.opening)
      (subst (λ n. AreComing f n core.history more) (sym h.limit_is)
      (subst (λ l. AreComing f limit l more) (sym h.at.history_is) coming))) in
      let to = ran.2 in
      record {
        mid = ran.0;
        runs = ran.1;
        at = record {
          opening = to.opening ∙ h.at.opening;
          numbered = h.at.numbered;
          history_is = to.history ∙ (ap (λ l. l ++ more) h.at.history_is ∙ one.1);
          log_is = to.log s ∙ h.at.log_is;
          rests = subst (IsAtRest old.log) (sym (to.answered s)) h.at.rests;
        };
        limit_is = to.limit ∙ h.limit_is;
        pool_is = to.pool ∙ h.pool_is;
      }

  edit_line : (grouped : Bool) (edits : List Edit) (reply : Reply) (core : Core) (old new : Stand) → StandsIn core old
      → DoesEdit grouped f limit s edits old reply new → IsPrefix new.seen (entries_in changes)
      → (end : Core) × RunsLine s budget (change_by edits grouped) reply core end × StandsIn end new
  edit_line grouped edits reply core old new h does on =
      let is = found_of grouped limit f s edits old.seen new.seen reply.body does.told.says in
      let added = added_by s edits reply.body in
      let o = others_come core old is.found h is.gained.longer
      (prefix_on is.found new.seen (entries_in changes) (added, is.added) on) in
      let long = prefix_short old.seen new.seen
      (prefix_on old.seen is.found new.seen is.gained.longer (added, is.added)) in
      let at : o.mid.history ++ added ≡ new.seen = ap (λ l. l ++ added) o.at.history_is ∙ is.added in
      let end = after_turn o.mid s added in
      let run = edits_run grouped f limit s edits old.seen new.seen reply o.mid does.group does.told o.at.opening
      o.limit_is at in
      let more = is.gained.longer.0 in (
        end,
        record {
          others = more;
          foreign = are_foreign s old.seen is.found is.gained;
          events = commit s edits ∷ [];
          own = refl;
          runs = subst (λ l. Runs core (commits_of more ++ commit s edits ∷ []) (more ++ l) end)
              (made_same s edits grouped reply.body)
              (runs_append core o.mid end (commits_of more) (commit s edits ∷ []) more added o.runs run);
          front = does.told.front ∙ sym (ap length at);
        },
        record {
          at = record {
            opening = o.at.opening;
            numbered = o.at.numbered;
            history_is = at;
            log_is = turn_log o.mid s added s ∙ (o.at.log_is ∙ sym does.log);
            rests = subst (IsAtRest new.log) (sym (turn_answered o.mid s added s))
                (subst (λ (log : OracleLog). IsAtRest log (o.mid.sessions s).answered) (sym does.log) o.at.rests);
          };
          limit_is = o.limit_is;
          pool_is = o.pool_is;
          followed = omega (arith, does.followed, h.followed, long);
        },
      )

  query_line : (asked : Asked) (reply : Reply) (core : Core) (old new : Stand) → StandsIn core old
      → DoesQuery f budget s asked old reply new → IsPrefix new.seen (entries_in changes)
      → ((kept : KeptAnswer) → Contains new.answers kept → Contains answers kept)
      → (end : Core) × RunsLine s budget (Ask asked) reply core end × StandsIn end new
  query_line asked reply core old new h does on keep =
      let o = others_come core old new.seen h does.gained.longer on in
      let more = does.gained.longer.0 in
      let long = prefix_short old.seen new.seen does.gained.longer in
      let there = keep does.kept
      (subst (λ l. Contains l does.kept) (sym does.answers) (Contains-push old.answers does.kept)) in
      let query : IsQueryOn f s asked budget new.seen old.followed old.log new.log does.kept reply.body = record {
        log = does.before;
        catches_up = does.catches_up;
        used = does.used;
        replied = does.replied;
        steps = does.steps;
      } in
      let ran = queries_run f s asked budget new.seen old.followed old.log new.log does.kept reply.body o.mid query
      (omega (arith, h.followed, long)) o.at (record {
        each = λ token is. subst (λ (pool : ℕ → Option PoolEntry). pool (index_of token) ≡ Some (entry_of token))
            (sym o.pool_is) ((pooled does.kept there).each token is);
      }) in
      let end = ran.0 in
      let run = ran.2 in
      let last = answer s asked MAX_EXTENSIONS budget does.kept.pending run.ending in
      let events = refresh s ∷ (run.events ++ last ∷ []) in (
        end,
        record {
          others = more;
          foreign = are_foreign s old.seen new.seen does.gained;
          events = events;
          own = record {
            steps = run.events;
            of_log = run.of_log;
            pending = does.kept.pending;
            ending = run.ending;
            ends = run.ends;
            are = refl;
          };
          runs = runs_append core o.mid end (commits_of more) events more [] o.runs run.runs;
          front = does.front ∙ sym (ap length ran.1.history_is);
        },
        record {
          at = ran.1;
          limit_is = run.limit_is ∙ o.limit_is;
          pool_is = run.pool ∙ o.pool_is;
          followed = omega (arith, does.followed);
        },
      )

  line_run : (command : ScriptCommand) (reply : Reply) (core : Core) (old new : Stand) → StandsIn core old
      → DoesCommand f limit budget s command old reply new → IsPrefix new.seen (entries_in changes)
      → ((kept : KeptAnswer) → Contains new.answers kept → Contains answers kept)
      → (end : Core) × RunsLine s budget command reply core end × StandsIn end new
  line_run (change_by edits grouped) reply core old new h does on keep =
      edit_line grouped edits reply core old new h does on
  line_run (Ask asked) reply core old new h does on keep = query_line asked reply core old new h does on keep

  lines_run : (lines : List ScriptLine) (replies : List Reply) (core : Core) (old new : Stand) → StandsIn core old
      → Walks f limit budget s old lines replies new → IsPrefix new.seen (entries_in changes)
      → ((kept : KeptAnswer) → Contains new.answers kept → Contains answers kept)
      → (end : Core) × RunsLines s budget lines replies core end × StandsIn end new
  lines_run [] [] core old new h walks on keep = (core, refl, subst (StandsIn core) (sym walks) h)
  lines_run [] (reply ∷ replies) core old new h walks on keep = absurd walks
  lines_run (line ∷ lines) [] core old new h walks on keep = absurd walks
  lines_run (line ∷ lines) (reply ∷ replies) core old new h walks on keep =
      let mid = walks.0 in
      let later = (done_by f limit budget s lines mid new replies walks.2).on in
      let first = line_run line.command reply core old mid h walks.1
      (prefix_on mid.seen new.seen (entries_in changes) later.longer on)
      (λ kept there. keep kept (later.keeps kept there)) in
      let rest = lines_run lines replies first.0 mid new first.2 walks.2 on keep in
      (rest.0, (first.0, first.1, rest.1), rest.2)

-- ---- the beginning

-- a token that is kept of a query is among all
among_tokens : (answers : List KeptAnswer) (kept : KeptAnswer) (token : Token) → Contains answers kept
    → Contains kept.tokens token → Contains (tokens_of answers) token
among_tokens [] kept token there is = absurd (omega (arith, there.1))
among_tokens (first ∷ rest) kept token (zero, low, at) is =
    Contains-append_left first.tokens (tokens_of rest) token
    (subst (λ (a : KeptAnswer). Contains a.tokens token) (sym at) is)
among_tokens (first ∷ rest) kept token (suc n, low, at) is =
    Contains-append_right first.tokens (tokens_of rest) token
    (among_tokens rest kept token (n, omega (arith, low), at) is)

-- where the tokens are in a row from index 0 on, each stands at its index
begun_pooled : (f : Framework) (limit : ℕ) (answers : List KeptAnswer)
    → AreInRow 0 (tokens_of answers) (length (tokens_of answers)) → (kept : KeptAnswer) → Contains answers kept
    → HasPooled (begun f limit answers) kept.tokens
begun_pooled f limit answers row kept there = record {
  each = λ token is.
      let tokens = tokens_of answers in
      let at = among_tokens answers kept token there is in
      let here : index_of token ≡ 0 + at.0 = sym (ap index_of at.2) ∙ row.each at.0 token at.1 in
      let own : index_of token ≡ at.0 = omega (arith, here) in
      ap (λ i. option_map entry_of (slice_get tokens i)) own
      ∙ (ap (option_map entry_of) (slice_get-get_or tokens at.0 token at.1)
      ∙ ap (λ (x : Token). Some (entry_of x)) at.2);
}

-- ---- each entry is a group

groups_made : (f : Framework) (limit budget s : ℕ) (lines : List ScriptLine) (replies : List Reply) (old new : Stand)
    → Walks f limit budget s old lines replies new → (x : HistoryEntry) → Contains (entries_made s lines replies) x
    → IsGroup x.edits
groups_made f limit budget s [] replies old new walks x c = absurd (Contains-nil x c)
groups_made f limit budget s (line ∷ lines) [] old new walks x c = absurd (Contains-nil x c)
groups_made f limit budget s (line ∷ lines) (reply ∷ replies) old new walks x c =
    ⊎_elim (λ here.
    let of_line = made_here s line.command reply.body x here in
    (subst (λ command. DoesCommand f limit budget s command old reply walks.0) of_line.command_is walks.1).group)
    (λ later. groups_made f limit budget s lines replies walks.0 new walks.2 x later)
    (Contains-append_cases (made_by s line.command reply.body) (entries_made s lines replies) x c)

all_groups : (f : Framework) (script : Script) (budget : ℕ) (t : ScriptTranscript) → IsTranscriptOf f script budget t
    → All (λ (e : HistoryEntry). IsGroup e.edits) (entries_in t.history.entries.items)
all_groups f script budget t is = λ n d low.
    let entries = entries_in t.history.entries.items in
    let x = get_or entries n d in
    let bounds = is.numbered n d low in
    let k = x.session - 1 in
    let session : x.session ≡ k + 1 = omega (arith, bounds.0) in
    let inside : k < is.sessions = omega (arith, bounds.0, bounds.1) in
    let nothing : Kept = some_item t.kept.items (omega (arith, inside, is.kept)) in
    let served = is.served k [] nothing inside in
    let own = (Contains-filter (λ (e : HistoryEntry). session_of e == k + 1) entries x).1
    (Contains-get_or entries n d low, eq-eqb x.session (k + 1) session) in
    groups_made f MAX_HISTORY budget (k + 1) (lines_of (k + 1) script.lines) (slice_index_or t.replies.items k [])
    (at_start MAX_STEPS) served.walked.end served.walked.walks x (subst (λ l. Contains l x) served.own own)

-- ---- the law

rests_empty : IsAtRest (at_start MAX_STEPS).log 0
rests_empty = record { sided = refl; within = omega arith; quiet = λ k low high. absurd (omega (arith, high)) }

pub sessions_run : SessionsAreRuns
sessions_run f script budget t is k none nothing low =
    let s = k + 1 in
    let changes = t.history.entries.items in
    let inside : k < is.sessions = omega (arith, low, is.replies) in
    let walked = (is.served k none nothing inside).walked in
    let answers = (slice_index_or t.kept.items k nothing).answers.items in
    let core = begun f MAX_HISTORY answers in
    let pooled = begun_pooled f MAX_HISTORY answers (is.shared k nothing inside).row in
    let groups = all_groups f script budget t is in
    let started : StandsIn f MAX_HISTORY budget s changes is.taken is.within groups core answers pooled core
    (at_start MAX_STEPS) = record {
      at = record {
        opening = refl;
        numbered = is.form;
        history_is = refl;
        log_is = refl;
        rests = rests_empty;
      };
      limit_is = refl;
      pool_is = refl;
      followed = omega arith;
    } in
    let ran = lines_run f MAX_HISTORY budget s changes is.taken is.within groups core answers pooled _ _ core
    (at_start MAX_STEPS) walked.end started walked.walks walked.gained.longer
    (λ kept there. subst (λ l. Contains l kept) (sym walked.answers_are) there) in
    let o = others_come f MAX_HISTORY budget s changes is.taken is.within groups core answers pooled ran.0 walked.end
    (entries_in changes) ran.2 walked.gained.longer ([], append-nil (entries_in changes)) in
    record {
      mid = ran.0;
      lines_run = ran.1;
      others = walked.gained.longer.0;
      foreign = are_foreign s walked.end.seen (entries_in changes) walked.gained;
      end = o.mid;
      runs = o.runs;
      history_is = o.at.history_is;
      log_is = o.at.log_is ∙ sym walked.log_is;
    }
