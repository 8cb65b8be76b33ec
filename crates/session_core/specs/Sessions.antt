-- What is said of a session at a hub.
use Rattle.std.specs.Prelude.{◌≡◌, ℕ, false, List, [], ◌∷◌, ◌++◌, All, length, map, take, drop}
use Rattle.std.specs.List.{flat_map}
use Rattle.semantics.specs.Frameworks.{Framework}
use Rattle.iccma_tasks.specs.Tasks.{Asked}
use Rattle.turn_lock.specs.Seats.{list_of}
use Rattle.edit_history.specs.declared.entry.HistoryEntry.{HistoryEntry}
use Rattle.edit_history.specs.declared.hub.Hub.{Hub}
use Rattle.edit_history.specs.Entries.{edits_of, framework_after}
use Rattle.edit_history.specs.Hubs.{start_of}
use Rattle.oracle_face.specs.Logs.{OracleLog}
use Rattle.clause_pool.specs.declared.pool.Pool.{Pool}
use Rattle.clause_pool.specs.declared.pooled.Token.{Token}
use Rattle.clause_pool.specs.Pools.{AreInRow, AreTokensOf, entry_of}
use Rattle.session_replies.specs.declared.reply.Reply.{Reply}
use Rattle.session_core.specs.declared.kept.KeptAnswer.{KeptAnswer}
use Rattle.session_core.specs.declared.session.Session.{Session}
use Rattle.session_core.specs.Following.{CatchesUp, HasFollowed}
use Rattle.session_core.specs.Replies.{IsBySteps, IsKeptOf, IsReplied}

-- the history that the session has seen
abbrev pub seen_by : Session → List HistoryEntry
seen_by session = list_of session.seat

-- unless memory was refused, the session's engine is for the framework after the first entries that it has seen, as
-- many as it has followed
abbrev pub Follows : Hub → Session → Type 0
Follows hub session =
    session.out_of_memory ≡ false → HasFollowed (start_of hub) (seen_by session) session.followed session.engine

-- the session follows each hub that began with the framework
abbrev pub FollowsFrom : Framework → Session → Type 0
FollowsFrom f session = (hub : Hub) → start_of hub ≡ f → Follows hub session

-- for each of these queries the tokens that are kept are the pool's
abbrev pub RestOnPool : Pool → List KeptAnswer → Type 0
RestOnPool pool answers = All (λ kept. AreTokensOf pool kept.tokens) answers

-- the tokens that are kept of these queries, query by query
abbrev pub tokens_of : List KeptAnswer → List Token
tokens_of answers = flat_map (λ (kept : KeptAnswer). kept.tokens) answers

-- where the tokens that a session keeps were the pool's, they are now; and where they stood at the pool's indexes, from
-- 0 to the one at which it looks next, they do now
pub record TakesMore (pool : Pool) (old new : Session) : Type 0 where
  pub own : RestOnPool pool old.answers.items → RestOnPool pool new.answers.items
  pub row : AreInRow 0 (tokens_of old.answers.items) old.taken → AreInRow 0 (tokens_of new.answers.items) new.taken

-- the session took a query, and this is its reply: it followed the whole history as it then was, the log gained axioms
-- that were needed on the way, and then steps of the session, for which the pool gave the entries of the tokens that
-- are kept, the reply is about the framework after the whole history, and what is kept of the query is added
pub record IsAsked (hub : Hub) (asked : Asked) (limit : ℕ) (old new : Session) (reply : Reply) : Type 0 where
  pub front : reply.front ≡ length (seen_by new)
  pub followed : new.followed ≡ length (seen_by new)
  pub framework : new.engine.framework ≡ framework_after (start_of hub) (seen_by new)
  pub log : OracleLog
  pub catches_up : CatchesUp (framework_after (start_of hub) (take old.followed (seen_by new)))
      (edits_of (drop old.followed (seen_by new))) old.engine.log log
  pub used : ℕ
  pub kept : KeptAnswer
  pub replied : IsReplied (framework_after (start_of hub) (seen_by new)) asked limit log new.engine.log kept.pending
      used reply.body
  pub steps : IsBySteps (framework_after (start_of hub) (seen_by new)) old.engine.number (map entry_of kept.tokens)
      asked log new.engine.log kept.pending reply.body
  pub kept_is : IsKeptOf log new.engine.log reply.body kept
  pub answers : new.answers.items ≡ old.answers.items ++ kept ∷ []
