-- What a session's calls leave, one part after the other.
use Rattle.std.proofs.Common.{◌≡◌, ◌∙◌, ℕ, ◌≤◌, List, [], ◌∷◌, ◌++◌, length, take, drop, sym, ap, subst}
use Rattle.std.proofs.lemmas.Grind.{flat_map-append}
use Rattle.std.proofs.lemmas.List.{append-nil, take-append-le}
use Rattle.std.proofs.lemmas.List.Elements.{All-push}
use Rattle.std.proofs.Math.Seq.{take-append_seam}
use mathlib.Core.List.{IsPrefix}
use Rattle.semantics.specs.Frameworks.{Framework}
use Rattle.edit_history.specs.declared.entry.HistoryEntry.{HistoryEntry}
use Rattle.edit_history.specs.declared.hub.Fresh.{Fresh}
use Rattle.edit_history.specs.Entries.{edits_of, entries_in, framework_after}
use Rattle.edit_history.specs.Hubs.{IsFresh, start_of}
use Rattle.oracle_face.specs.Growing.{Grows, Making}
use Rattle.oracle_face.specs.Logs.{OracleLog}
use Rattle.oracle_face.proofs.GrowingLemmas.{grows_joined, grows_same}
use Rattle.session_log.specs.Ends.{MadeFor}
use Rattle.oracle_core.specs.Engines.{EngineState}
use Rattle.oracle_core.specs.Trading.{AnySide}
use Rattle.clause_pool.specs.declared.pool.Pool.{Pool}
use Rattle.clause_pool.specs.Pools.{AreInRow, AreTokensOf}
use Rattle.clause_pool.proofs.RowLemmas.{none_yet, rows_joined}
use Rattle.session_core.specs.declared.kept.KeptAnswer.{KeptAnswer}
use Rattle.session_core.specs.declared.session.Session.{Session}
use Rattle.session_core.specs.Following.{CatchesUp, HasFollowed}
use Rattle.session_core.specs.Laws.{AskedIsReadable, ReadableStays}
use Rattle.session_core.specs.Sessions.{RestOnPool, TakesMore, seen_by, tokens_of}
use Rattle.session_core.specs.Telling.{IsCaughtUp}
use Rattle.session_core.proofs.FollowingLemmas.{after_parts}

-- ---- histories

-- the first entries stay when more is seen
first_same : (before after : List HistoryEntry) (count : ℕ) → count ≤ length before → IsPrefix before after
    → take count after ≡ take count before
first_same before after count within longer =
    ap (take count) (sym longer.1) ∙ take-append-le count before longer.0 within

-- what was followed is followed still
followed_still : (f : Framework) (before after : List HistoryEntry) (count : ℕ) (engine : EngineState)
    → HasFollowed f before count engine → IsPrefix before after
    → engine.framework ≡ framework_after f (take count after)
followed_still f before after count engine is longer =
    is.framework ∙ ap (framework_after f) (sym (first_same before after count is.within longer))

-- when the engine has followed what is fresh, it has followed the whole history
pub caught_up : (f : Framework) (old new : Session) (fresh : Fresh)
    → HasFollowed f (seen_by old) old.followed old.engine → IsPrefix (seen_by old) (seen_by new)
    → IsFresh f (seen_by new) old.followed fresh
    → new.engine.framework ≡ framework_after old.engine.framework (entries_in fresh.entries)
    → CatchesUp old.engine.framework (edits_of (entries_in fresh.entries)) old.engine.log new.engine.log
    → new.followed ≡ fresh.front → IsCaughtUp f old new fresh.front
caught_up f old new fresh is longer tells follows caught count =
    let list = seen_by new in
    let at : old.engine.framework ≡ framework_after f (take old.followed list) =
    followed_still f (seen_by old) list old.followed old.engine is longer in
    record {
      whole = tells.front;
      followed = count ∙ tells.front;
      framework = follows
          ∙ (ap (λ g. framework_after g (entries_in fresh.entries)) at
          ∙ (ap (framework_after (framework_after f (take old.followed list))) tells.entries
          ∙ after_parts f old.followed list));
      catches_up = subst (λ g. CatchesUp g (edits_of (drop old.followed list)) old.engine.log new.engine.log) at
          (subst (λ entries. CatchesUp old.engine.framework (edits_of entries) old.engine.log new.engine.log)
          tells.entries caught);
    }

-- ---- what is read off a log

-- a log that has grown begins with what it was
front_is : (P : Making) (old new : OracleLog) → Grows P old new → old.steps ≡ take (length old.steps) new.steps
front_is P old new grows =
    let more = grows.more_steps in
    sym (ap (take (length old.steps)) more.1 ∙ take-append_seam old.steps more.0)

-- the reply to a query can be read off the log behind it
pub readable_now : AskedIsReadable
readable_now hub asked limit old new reply is =
    let now = new.engine.log in
    let made : Making = MadeFor (framework_after (start_of hub) (seen_by new)) asked in
    record {
      old = is.log;
      new = now;
      used = is.used;
      replied = is.replied;
      kept_is = is.kept_is;
      first = front_is made is.log now is.replied.run.grows ∙ ap (λ n. take n now.steps) (sym is.kept_is.before);
      last = front_is AnySide now now (grows_same AnySide now) ∙ ap (λ n. take n now.steps) (sym is.kept_is.after);
      since = grows_same AnySide now;
    }

-- and off each log that grows from it
pub readable_still : ReadableStays
readable_still f asked limit log later kept body is grows =
    let since : Grows AnySide is.new later =
    grows_joined AnySide AnySide AnySide is.new log later (λ literals set made. tt) (λ literals set made. tt) is.since
    grows in
    record {
      old = is.old;
      new = is.new;
      used = is.used;
      replied = is.replied;
      kept_is = is.kept_is;
      first = front_is AnySide is.old later
          (grows_joined (MadeFor f asked) AnySide AnySide is.old is.new later (λ literals set made. tt)
          (λ literals set made. tt) is.replied.run.grows since)
          ∙ ap (λ n. take n later.steps) (sym is.kept_is.before);
      last = front_is AnySide is.new later since ∙ ap (λ n. take n later.steps) (sym is.kept_is.after);
      since = since;
    }

-- ---- what the pool gave

-- a query more, for which the pool gave the entries of its own tokens
pub rest_more : (pool : Pool) (before after : List KeptAnswer) (kept : KeptAnswer) → after ≡ before ++ kept ∷ []
    → AreTokensOf pool kept.tokens → RestOnPool pool before → RestOnPool pool after
rest_more pool before after kept is own rest =
    subst (RestOnPool pool) (sym is) (All-push (λ (a : KeptAnswer). AreTokensOf pool a.tokens) before kept rest own)

-- ---- where it stands in the pool

pub none_taken : (answers : List KeptAnswer) (next : ℕ) → answers ≡ [] → next ≡ 0
    → AreInRow 0 (tokens_of answers) next
none_taken answers next none start =
    subst (AreInRow 0 (tokens_of answers)) (sym start) (none_yet (tokens_of answers) 0 (ap tokens_of none))

-- what is kept stays so
pub same_taken : (pool : Pool) (old new : Session) → new.answers.items ≡ old.answers.items → new.taken ≡ old.taken
    → TakesMore pool old new
same_taken pool old new answers taken = record {
  own = subst (RestOnPool pool) (sym answers);
  row = λ row. subst (λ (l : List KeptAnswer). AreInRow 0 (tokens_of l) new.taken) (sym answers)
      (subst (AreInRow 0 (tokens_of old.answers.items)) (sym taken) row);
}

-- what came after what stayed
pub taken_after : (pool : Pool) (old mid new : Session) → mid.answers.items ≡ old.answers.items
    → mid.taken ≡ old.taken → TakesMore pool mid new → TakesMore pool old new
taken_after pool old mid new answers taken more =
    let same = same_taken pool old mid answers taken in
    record { own = λ are. more.own (same.own are); row = λ row. more.row (same.row row) }

-- a query more, the tokens of which follow on the others
pub row_more : (before after : List KeptAnswer) (kept : KeptAnswer) (low high : ℕ) → after ≡ before ++ kept ∷ []
    → AreInRow low kept.tokens high → AreInRow 0 (tokens_of before) low → AreInRow 0 (tokens_of after) high
row_more before after kept low high is own row =
    let whole : tokens_of before ++ kept.tokens ≡ tokens_of after =
    ap (λ l. tokens_of before ++ l) (sym (append-nil kept.tokens))
    ∙ (sym (flat_map-append (λ (a : KeptAnswer). a.tokens) before (kept ∷ [])) ∙ ap tokens_of (sym is)) in
    subst (λ l. AreInRow 0 l high) whole (rows_joined (tokens_of before) kept.tokens 0 low high row own)
