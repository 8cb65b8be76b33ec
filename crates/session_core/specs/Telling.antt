-- How a session comes to the reply to a query.
use Rattle.std.specs.Prelude.{◌≡◌, ℕ, ◌<◌, [], ◌∷◌, ◌++◌, length, map, take, drop, Option, None, Result, Ok, Err}
use Rattle.semantics.specs.Frameworks.{Framework}
use Rattle.iccma_tasks.specs.Tasks.{Asked}
use Rattle.turn_lock.specs.Seats.{number_of, turns_of}
use Rattle.edit_history.specs.declared.hub.Hub.{Hub}
use Rattle.edit_history.specs.Entries.{edits_of, framework_after}
use Rattle.edit_history.specs.Hubs.{GainsOthers, IsSeatAt}
use Rattle.oracle_face.specs.declared.face.Pending.{Pending}
use Rattle.oracle_face.specs.Logs.{OracleLog}
use Rattle.clause_pool.specs.Pools.{entry_of}
use Rattle.oracle_core.specs.declared.reply.Answered.{Answered}
use Rattle.oracle_core.specs.declared.reply.AnswerStop.{AnswerStop}
use Rattle.oracle_core.specs.declared.reply.AnswerStop.TheVariants as stop
use Rattle.session_replies.specs.declared.reply.Body.{Body}
use Rattle.session_replies.specs.declared.reply.Body.TheVariants as body
use Rattle.session_core.specs.declared.answering.QueryEnd.{QueryEnd}
use Rattle.session_core.specs.declared.kept.KeptAnswer.{KeptAnswer}
use Rattle.session_core.specs.declared.session.Session.{Session}
use Rattle.session_core.specs.Following.{CatchesUp}
use Rattle.session_core.specs.Replies.{IsBySteps, IsKeptOf, IsReplied}
use Rattle.session_core.specs.Sessions.{seen_by}

-- ---- the engine's part

-- what the reply says where the engine ended the query so
abbrev pub IsBodyOf : Result Answered AnswerStop → Body → Type 0
IsBodyOf (Ok answered) said = said ≡ body.Answered answered.answer answered.certificate
IsBodyOf (Err (stop.Query fault)) said = said ≡ body.QueryRefused fault
IsBodyOf (Err (stop.Spent count)) said = said ≡ body.Unknown count
IsBodyOf (Err stop.TooMany) said = said ≡ body.TooMany
IsBodyOf (Err stop.LogFull) said = said ≡ body.LogFull
IsBodyOf (Err stop.Memory) said = ⊥

-- the clause that is kept of the query then, where this one is in hand
abbrev pub clause_kept : Body → Option Pending → Option Pending
clause_kept (body.Unknown count) in_hand = in_hand
clause_kept said in_hand = None

-- a query to the engine of a number came to a reply, and what is kept of it, with the tokens of what the pool gave
pub record IsTold (f : Framework) (own : ℕ) (asked : Asked) (limit : ℕ) (old new : OracleLog) (told : QueryEnd) : Type 0
  where
    pub used : ℕ
    pub replied : IsReplied f asked limit old new told.kept.pending used told.body
    pub steps : IsBySteps f own (map entry_of told.kept.tokens) asked old new told.kept.pending told.body
    pub kept_is : IsKeptOf old new told.body told.kept

-- ---- the session's parts

-- the session had a turn at the hub, at which it added nothing to the history
pub record HasTurn (hub : Hub) (old new : Session) : Type 0 where
  pub seat : IsSeatAt hub new.seat
  pub number : number_of new.seat ≡ number_of old.seat
  pub later : turns_of old.seat < turns_of new.seat
  pub gained : GainsOthers (number_of old.seat) (seen_by old) (seen_by new)

-- the session has followed the whole history that it has seen
pub record IsCaughtUp (f : Framework) (old new : Session) (front : ℕ) : Type 0 where
  pub whole : front ≡ length (seen_by new)
  pub followed : new.followed ≡ length (seen_by new)
  pub framework : new.engine.framework ≡ framework_after f (seen_by new)
  pub catches_up : CatchesUp (framework_after f (take old.followed (seen_by new)))
      (edits_of (drop old.followed (seen_by new))) old.engine.log new.engine.log

-- the session's engine came to this reply, and what is kept of it is added
pub record HasTold (asked : Asked) (limit : ℕ) (old new : Session) (said : Body) : Type 0 where
  pub used : ℕ
  pub kept : KeptAnswer
  pub replied : IsReplied old.engine.framework asked limit old.engine.log new.engine.log kept.pending used said
  pub steps : IsBySteps old.engine.framework old.engine.number (map entry_of kept.tokens) asked old.engine.log
      new.engine.log kept.pending said
  pub kept_is : IsKeptOf old.engine.log new.engine.log said kept
  pub answers : new.answers.items ≡ old.answers.items ++ kept ∷ []
