-- What a session's query is in the core: a refresh, steps of the session's own log, and an answer.
use Rattle.std.specs.Prelude.{◌≡◌, ℕ, ◌≤◌, ◌<◌, false, List, [], ◌∷◌, ◌++◌, length, map, Contains}
use Rattle.std.specs.Prelude.{count_by, drop, slice_index_or, take, Option, Some}
use Rattle.semantics.specs.Frameworks.{Framework, IsNumbered}
use Rattle.meaning_atoms.specs.declared.axiom.AxiomName.{AxiomName}
use Rattle.iccma_tasks.specs.Tasks.{Asked}
use Rattle.edit_history.specs.declared.entry.HistoryEntry.{HistoryEntry}
use Rattle.edit_history.specs.declared.hub.Hub.{Hub}
use Rattle.edit_history.specs.Entries.{edits_of, framework_after}
use Rattle.edit_history.specs.Hubs.{start_of}
use Rattle.oracle_face.specs.declared.face.Pending.{Pending}
use Rattle.oracle_face.specs.Logs.{OracleLog, LogStep, by_axiom, is_loop, no_step}
use Rattle.clause_pool.specs.Pools.{entry_of, index_of}
use Rattle.clause_pool.specs.declared.pooled.Token.{Token}
use Rattle.session_log.specs.Ends.{Ending, definite, log_full, refused, too_many, unknown}
use Rattle.core_machine.specs.Core.{Core}
use Rattle.core_machine.specs.Steps.{Event, Runs, answer, is_side_step, learn, refresh, side, take_in}
use Rattle.session_replies.specs.declared.reply.Body.{Body}
use Rattle.session_replies.specs.declared.reply.Body.TheVariants.{Answered, LogFull, QueryRefused, TooMany, Unknown}
use Rattle.session_replies.specs.declared.reply.Reply.{Reply}
use Rattle.semantics.specs.declared.limits.TheConstants.{MAX_EXTENSIONS}
use Rattle.session_core.specs.declared.kept.KeptAnswer.{KeptAnswer}
use Rattle.session_core.specs.declared.session.Session.{Session}
use Rattle.session_core.specs.Following.{CatchesUp}
use Rattle.session_core.specs.Replies.{IsBySteps, IsReplied}
use Rattle.session_core.specs.Sessions.{IsAsked, seen_by}

-- ---- the pool

-- the core's pool has the entry of each token, at the index at which it stands in the pool that gave the token
pub record HasPooled (core : Core) (tokens : List Token) : Type 0 where
  pub each : (token : Token) → Contains tokens token → core.pool (index_of token) ≡ Some (entry_of token)

-- ---- a state of the core that a session stands in

-- the step is an axiom, and no loop clause
pub record IsQuiet (step : LogStep) : Type 0 where
  pub name : AxiomName
  pub source : step.source ≡ by_axiom name
  pub no_loop : is_loop name ≡ false
  pub kept : step.closing ≡ false

-- each side clause has one step, and behind so many steps there are axioms alone, no loop clause among them
pub record IsAtRest (log : OracleLog) (answered : ℕ) : Type 0 where
  pub sided : count_by is_side_step log.steps ≡ length log.sides
  pub within : answered ≤ length log.steps
  pub quiet : (k : ℕ) → answered ≤ k → k < length log.steps → IsQuiet (slice_index_or log.steps k no_step)

-- the core began with the framework, which is in its form, its history has these entries, and the session of the number
-- has the log, to which axioms alone came since its last answer
pub record StandsAt (core : Core) (s : ℕ) (f : Framework) (history : List HistoryEntry) (log : OracleLog) : Type 0 where
  pub opening : core.opening ≡ f
  pub numbered : IsNumbered f
  pub history_is : core.history ≡ history
  pub log_is : (core.sessions s).log ≡ log
  pub rests : IsAtRest log (core.sessions s).answered

-- ---- runs

-- the event is one of the session's on its own log
abbrev pub IsOfLog : ℕ → Event → Type 0
IsOfLog s (learn t clause source closing) = t ≡ s
IsOfLog s (side t set literals) = t ≡ s
IsOfLog s (take_in t i) = t ≡ s
IsOfLog s event = ⊥

abbrev pub AreOfLog : ℕ → List Event → Type 0
AreOfLog s [] = Unit {0}
AreOfLog s (event ∷ events) = IsOfLog s event × AreOfLog s events

-- a query with this reply ended so; a reply that there are too many extensions doesn't tell them
abbrev pub EndsAs : Body → Ending → Type 0
EndsAs (Answered given certificate) ending = ending ≡ definite given certificate.sets
EndsAs (QueryRefused fault) ending = ending ≡ refused fault
EndsAs (Unknown count) ending = ending ≡ unknown count
EndsAs TooMany ending = (sets : List (List ℕ)) × (ending ≡ too_many sets)
EndsAs LogFull ending = ending ≡ log_full
EndsAs body ending = ⊥

-- a refresh, then events on the session's own log, and then the answer that this reply tells lead from the one state to
-- the other, which has the same pool and as much room for edits
pub record RunsToAnswer (core end : Core) (s : ℕ) (asked : Asked) (limit : ℕ) (pending : Option Pending)
    (said : Body) : Type 0 where
  pub events : List Event
  pub of_log : AreOfLog s events
  pub ending : Ending
  pub ends : EndsAs said ending
  pub runs : Runs core (refresh s ∷ (events ++ answer s asked MAX_EXTENSIONS limit pending ending ∷ [])) [] end
  pub pool : end.pool ≡ core.pool
  pub limit_is : end.limit ≡ core.limit

-- ---- the law

-- a query of the session of the number is told of a framework after a history, of which its engine had followed so many
-- entries: its log gained axioms that were needed on the way, and then steps of its own, on which the reply rests, and
-- for which the pool gave the entries of the tokens that are kept
pub record IsQueryOn (f : Framework) (s : ℕ) (asked : Asked) (limit : ℕ) (history : List HistoryEntry) (followed : ℕ)
    (old new : OracleLog) (kept : KeptAnswer) (said : Body) : Type 0 where
  pub log : OracleLog
  pub catches_up : CatchesUp (framework_after f (take followed history)) (edits_of (drop followed history)) old log
  pub used : ℕ
  pub replied : IsReplied (framework_after f history) asked limit log new kept.pending used said
  pub steps : IsBySteps (framework_after f history) s (map entry_of kept.tokens) asked log new kept.pending said

-- in each state of the core that the session stands in, and where the pool has the entries that the real one gave for
-- the query, the query is a run of the core: it refreshes, goes on by steps of its own log, and answers as the reply
-- says; the session stands in the state to which it leads. Where the reply is that there are too many extensions, it
-- answers with some that the log shows.
abbrev pub QueriesAreRuns : Type 0
QueriesAreRuns = (f : Framework) (s : ℕ) (asked : Asked) (limit : ℕ) (history : List HistoryEntry) (followed : ℕ)
    (old new : OracleLog) (kept : KeptAnswer) (said : Body) (core : Core)
    → IsQueryOn f s asked limit history followed old new kept said → followed ≤ length history
    → StandsAt core s f history old → HasPooled core kept.tokens
    → (end : Core) × StandsAt end s f history new × RunsToAnswer core end s asked limit kept.pending said

-- so is what a session is asked
abbrev pub AsksAreRuns : Type 0
AsksAreRuns = (hub : Hub) (asked : Asked) (limit : ℕ) (old new : Session) (reply : Reply) (core : Core)
    → (is : IsAsked hub asked limit old new reply) → old.followed ≤ length (seen_by new)
    → StandsAt core old.engine.number (start_of hub) (seen_by new) old.engine.log → HasPooled core is.kept.tokens
    → (end : Core) × StandsAt end old.engine.number (start_of hub) (seen_by new) new.engine.log
    × RunsToAnswer core end old.engine.number asked limit is.kept.pending reply.body
