-- What a session is told of an edit and of a query is so, and what its walk through its lines comes to.
use Rattle.std.proofs.Common.{arith, Bool, ◌≡◌, ℕ, ◌==◌, ◌+◌, List, [], ◌∷◌, ◌++◌, true, false, refl, sym, ap}
use Rattle.std.proofs.Common.{subst, ◌∙◌}
use Rattle.std.specs.Prelude.{◌≤◌, length, filter, map, Contains}
use Rattle.std.proofs.lemmas.Bool.Decides.{nat_tests}
use Rattle.std.proofs.lemmas.List.{append-nil, length-append}
use Rattle.std.proofs.lemmas.List.Elements.{Contains-append_left, Contains-push, filter-append}
use mathlib.Core.List.{IsPrefix}
use Rattle.semantics.specs.Frameworks.{Framework}
use Rattle.iccma_tasks.specs.Tasks.{Asked}
use Rattle.edit_rules.specs.declared.edit.Edit.{Edit}
use Rattle.turn_lock.specs.Turns.{entries_of}
use Rattle.edit_history.specs.declared.entry.HistoryEntry.{HistoryEntry}
use Rattle.edit_history.specs.declared.hub.Hub.{Hub}
use Rattle.edit_history.specs.Entries.{IsGroup, framework_after, session_of}
use Rattle.edit_history.specs.Hubs.{GainsOthers, limit_of, start_of}
use Rattle.session_core.specs.oracle_core.specs.Trading.{AnySide}
use Rattle.oracle_face.specs.Growing.{Grows, NoSide}
use Rattle.oracle_face.specs.Logs.{OracleLog}
use Rattle.oracle_face.proofs.GrowingLemmas.{grows_as, grows_same}
use Rattle.clause_pool.specs.declared.pool.Pool.{Pool}
use Rattle.clause_pool.specs.Pools.{entry_of}
use Rattle.session_log.specs.Ends.{MadeFor}
use Rattle.script_text.specs.declared.script.ScriptCommand.{ScriptCommand}
use Rattle.script_text.specs.declared.script.ScriptCommand.TheVariants.{Edit as change_by, Ask}
use Rattle.script_text.specs.declared.script.ScriptLine.{ScriptLine}
use Rattle.session_core.specs.oracle_core.specs.Engines.{EngineState}
use Rattle.session_core.specs.declared.session.Session.{Session}
use Rattle.session_core.specs.Replies.{EditSays, IsBySteps, IsEditReply}
use Rattle.session_core.specs.Sessions.{IsAsked, TakesMore, seen_by}
use Rattle.session_replies.specs.declared.reply.Body.{Body}
use Rattle.session_replies.specs.declared.reply.Body.TheVariants.{Done, EditRefused, Full, Answered, QueryRefused}
use Rattle.session_replies.specs.declared.reply.Body.TheVariants.{Unknown, TooMany, LogFull}
use Rattle.session_replies.specs.declared.reply.Reply.{Reply}
use Rattle.bench_runs.specs.declared.runner.Runner.{Runner}
use Rattle.hinted_log.specs.declared.log.TheConstants.{MAX_STEPS}
use Rattle.bench_runs.specs.Running.{HasServed, IsReady, IsTold, stand_of}
use Rattle.bench_runs.specs.Served.{EditEnds, IsFront, IsServed, LineEnds, entry_by, lines_of, made_by}
use Rattle.bench_runs.specs.Walks.{DoesCommand, DoesEdit, DoesQuery, Stand, Walks, at_start}
use Rattle.bench_runs.proofs.ServedLemmas.{AreDoneBy, IsDoneAt, all_zip_weaker, done_next, done_none, ends_on}
use Rattle.bench_runs.proofs.ServedLemmas.{filter_one}
use Rattle.bench_runs.proofs.ServedLemmas.{goes_on, own_line, prefix_on, prefix_short, rise_on, walks_push}

same_prefix : {X : Type 0} → (xs : List X) → IsPrefix xs xs
same_prefix xs = ([], append-nil xs)

-- what an edit was told, over plain values
record EditTold (grouped : Bool) (f : Framework) (limit s : ℕ) (edits : List Edit) (before now : List HistoryEntry)
    (front : ℕ) (body : Body) : Type 0 where
  longer : IsPrefix before now
  ends : EditEnds grouped f limit s now edits front body
  own : entries_of session_of s now ≡ entries_of session_of s before ++ made_by s (change_by edits grouped) body

others_told : (grouped : Bool) (f : Framework) (limit s : ℕ) (edits : List Edit) (before now : List HistoryEntry)
    (front : ℕ) (body : Body) → GainsOthers s before now → EditEnds grouped f limit s now edits front body
    → made_by s (change_by edits grouped) body ≡ [] → EditTold grouped f limit s edits before now front body
others_told grouped f limit s edits before now front body gained ends none = record {
  longer = gained.longer;
  ends = ends;
  own = gained.own ∙ (sym (append-nil (entries_of session_of s before))
      ∙ ap (λ l. entries_of session_of s before ++ l) (sym none));
}

edit_told : (grouped : Bool) (f : Framework) (limit s : ℕ) (edits : List Edit) (before now : List HistoryEntry)
    (front : ℕ) (body : Body) → front ≡ length now → EditSays grouped limit f s edits before now body
    → EditTold grouped f limit s edits before now front body
edit_told grouped f limit s edits before now front (Done effects) at says =
    let found = says.found in
    let entry = entry_by s edits in
    let same : (session_of entry == s) ≡ true = grind (arith, nat_tests) in
    record {
      longer = prefix_on before found now says.gained.longer (entry ∷ [], sym says.added.longer);
      ends = record {
        found = found;
        at = record {
          beginning = ([], append-nil (found ++ entry ∷ []) ∙ sym says.added.longer);
          counts = at ∙ ap length says.added.longer;
        };
        taken = says.added.taken;
      };
      own = ap (entries_of session_of s) says.added.longer
          ∙ (filter-append (λ (e : HistoryEntry). session_of e == s) found (entry ∷ [])
          ∙ (ap (λ l. entries_of session_of s found ++ l) (filter_one (λ (e : HistoryEntry). session_of e == s) entry
          same)
          ∙ ap (λ l. l ++ entry ∷ []) says.gained.own));
    }
edit_told grouped f limit s edits before now front (EditRefused told fault) at says =
    others_told grouped f limit s edits before now front (EditRefused told fault) says.0
    (record {
      found = now;
      at = record { beginning = same_prefix now; counts = at };
      room = says.1;
      refused = says.2;
    }) refl
edit_told grouped f limit s edits before now front Full at says =
    others_told grouped f limit s edits before now front Full says.0
    (record { found = now; at = record { beginning = same_prefix now; counts = at }; full = says.1 }) refl
edit_told grouped f limit s edits before now front (Answered answer certificate) at says = absurd says
edit_told grouped f limit s edits before now front (QueryRefused fault) at says = absurd says
edit_told grouped f limit s edits before now front (Unknown count) at says = absurd says
edit_told grouped f limit s edits before now front TooMany at says = absurd says
edit_told grouped f limit s edits before now front LogFull at says = absurd says

-- edits leave the engine and what is kept of queries as they are
done_edit : (grouped : Bool) (f : Framework) (limit budget s : ℕ) (edits : List Edit) (old new : Stand) (reply : Reply)
    → DoesEdit grouped f limit s edits old reply new
    → IsDoneAt f limit budget s (change_by edits grouped) old reply new
done_edit grouped f limit budget s edits old new reply does =
    let told = does.told in
    let h = edit_told grouped f limit s edits old.seen new.seen reply.front reply.body told.front told.says in
    record {
      on = record {
        longer = h.longer;
        grows = subst (Grows AnySide old.log) (sym does.log) (grows_same AnySide old.log);
        keeps = λ a there. subst (λ l. Contains l a) (sym does.answers) there;
      };
      front = told.front;
      ends = h.ends;
      own = h.own;
    }

-- a query adds no entry of the session's
done_query : (f : Framework) (limit budget s : ℕ) (asked : Asked) (old new : Stand) (reply : Reply)
    → DoesQuery f budget s asked old reply new → IsDoneAt f limit budget s (Ask asked) old reply new
done_query f limit budget s asked old new reply h = record {
  on = record {
    longer = h.gained.longer;
    grows = goes_on old.log h.before new.log
        (grows_as NoSide AnySide old.log h.before (λ literals set made. tt) h.catches_up.grows)
        (grows_as (MadeFor (framework_after f new.seen) asked) AnySide h.before new.log (λ literals set made. tt)
        h.replied.run.grows);
    keeps = λ a there. subst (λ l. Contains l a) (sym h.answers)
        (Contains-append_left old.answers (h.kept ∷ []) a there);
  };
  front = h.front;
  ends = record {
    found = new.seen;
    at = record { beginning = same_prefix new.seen; counts = h.front };
    before = h.before;
    behind = new.log;
    grown = grows_same AnySide new.log;
    kept = h.kept;
    used = h.used;
    replied = h.replied;
    kept_is = h.kept_is;
    listed = subst (λ l. Contains l h.kept) (sym h.answers) (Contains-push old.answers h.kept);
  };
  own = h.gained.own ∙ sym (append-nil (entries_of session_of s old.seen));
}

pub done_at : (f : Framework) (limit budget s : ℕ) (command : ScriptCommand) (old new : Stand) (reply : Reply)
    → DoesCommand f limit budget s command old reply new → IsDoneAt f limit budget s command old reply new
done_at f limit budget s (change_by edits grouped) old new reply does =
    done_edit grouped f limit budget s edits old new reply does
done_at f limit budget s (Ask asked) old new reply does = done_query f limit budget s asked old new reply does

pub done_by : (f : Framework) (limit budget s : ℕ) (lines : List ScriptLine) (old new : Stand) (replies : List Reply)
    → Walks f limit budget s old lines replies new → AreDoneBy f limit budget s old lines replies new
done_by f limit budget s [] old new [] h =
    subst (AreDoneBy f limit budget s old [] []) (sym h) (done_none f limit budget s old)
done_by f limit budget s [] old new (reply ∷ replies) h = absurd h
done_by f limit budget s (line ∷ lines) old new [] h = absurd h
done_by f limit budget s (line ∷ lines) old new (reply ∷ replies) h =
    done_next f limit budget s old h.0 new line reply lines replies
    (done_at f limit budget s line.command old h.0 reply h.1) (done_by f limit budget s lines h.0 new replies h.2)

-- a session that walked its lines was served, as each history has it to which others alone added since
pub walked_served : (f : Framework) (limit budget s : ℕ) (lines : List ScriptLine) (replies : List Reply)
    (history : List HistoryEntry) (end : Stand) → Walks f limit budget s (at_start MAX_STEPS) lines replies end
    → GainsOthers s end.seen history
    → IsServed f limit budget s lines history end.log end.answers replies
walked_served f limit budget s lines replies history end walks gained =
    let done = done_by f limit budget s lines (at_start MAX_STEPS) end replies walks in
    record {
      each = all_zip_weaker (LineEnds f limit budget s end.seen end.log end.answers)
          (LineEnds f limit budget s history end.log end.answers)
          (λ l r. ends_on f limit budget s end.seen history end.log end.log end.answers end.answers l.command r.front
          r.body (record {
            longer = gained.longer;
            grows = grows_same AnySide end.log;
            keeps = λ a there. there;
          })) lines replies done.each;
      rise = rise_on 0 (length end.seen) (length history) replies (prefix_short end.seen history gained.longer)
          done.rise;
      own = gained.own ∙ done.own;
      walked = record { end = end; walks = walks; gained = gained; log_is = refl; answers_are = refl };
    }

-- ---- what a session does

pub told_of_edit : (hub : Hub) (budget : ℕ) (grouped : Bool) (edits : List Edit) (old new : Session) (reply : Reply)
    → IsGroup edits
    → IsEditReply grouped (limit_of hub) (start_of hub) old.number edits (seen_by old) (seen_by new) reply
    → new.engine ≡ old.engine → new.followed ≡ old.followed → new.answers ≡ old.answers
    → IsTold hub budget (change_by edits grouped) old new reply
told_of_edit hub budget grouped edits old new reply group said engine followed answers = record {
  group = group;
  told = said;
  followed = followed;
  log = ap (λ (e : EngineState). e.log) engine;
  answers = ap (λ a. a.items) answers;
}

pub told_of_query : (hub : Hub) (budget : ℕ) (asked : Asked) (old new : Session) (reply : Reply)
    → old.engine.number ≡ old.number → IsAsked hub asked budget old new reply
    → GainsOthers old.number (seen_by old) (seen_by new) → IsTold hub budget (Ask asked) old new reply
told_of_query hub budget asked old new reply number h gained = record {
  gained = gained;
  front = h.front;
  followed = h.followed;
  before = h.log;
  catches_up = h.catches_up;
  used = h.used;
  kept = h.kept;
  replied = h.replied;
  steps = subst (λ n. IsBySteps (framework_after (start_of hub) (seen_by new)) n (map entry_of h.kept.tokens) asked
      h.log new.engine.log h.kept.pending reply.body) number h.steps;
  kept_is = h.kept_is;
  answers = h.answers;
}

-- a session that was opened stands at the start
pub opened_stand : (session : Session) → seen_by session ≡ [] → session.followed ≡ 0
    → session.engine.log ≡ (at_start MAX_STEPS).log → session.answers.items ≡ []
    → stand_of session ≡ at_start MAX_STEPS
opened_stand session seen followed log answers = λ i. record {
  seen = seen i;
  followed = followed i;
  log = log i;
  answers = answers i;
}

-- ---- a line is done

-- a line of the session's own was done
pub own_done : (hub : Hub) (pool : Pool) (budget : ℕ) (before : List ScriptLine) (old : Runner) (new : Session)
    (replies : List Reply)
    (line : ScriptLine) (reply : Reply) → line.session ≡ old.session.number → IsReady hub new
    → IsTold hub budget line.command old.session new reply → new.number ≡ old.session.number
    → replies ≡ old.replies ++ reply ∷ []
    → TakesMore pool old.session new
    → HasServed hub pool budget before old
    → HasServed hub pool budget (before ++ line ∷ []) (record { session = new; replies = replies })
own_done hub pool budget before old new replies line reply own ready told number pushed pooled h = record {
  ready = ready;
  walks = rw (pushed, number, own_line old.session.number before line own)
      (walks_push (start_of hub) (limit_of hub) budget old.session.number (at_start MAX_STEPS) (stand_of old.session)
      (stand_of new) (lines_of old.session.number before) old.replies line reply h.walks told);
  pooled = pooled.own h.pooled;
  row = pooled.row h.row;
}
