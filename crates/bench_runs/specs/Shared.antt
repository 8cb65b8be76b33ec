-- What a session took from others, by the pool that they shared.
use Rattle.std.specs.Prelude.{◌≡◌, ℕ, ◌<◌, List, Contains, length, slice_index_or, Some}
use Rattle.oracle_face.specs.declared.entry.EntryName.{EntryName}
use Rattle.oracle_face.specs.Logs.{IsSameClause, LogStep, OracleLog, no_step}
use Rattle.clause_pool.specs.declared.pool.Pool.{Pool}
use Rattle.clause_pool.specs.declared.pooled.Token.{Token}
use Rattle.clause_pool.specs.Pools.{AreInRow, entry_of}
use Rattle.session_core.specs.Sessions.{RestOnPool, tokens_of}
use Rattle.session_core.specs.declared.kept.KeptAnswer.{KeptAnswer}

-- the step has the name and the clause of an entry that was given for one of the queries
pub record IsOfGiven (answers : List KeptAnswer) (step : LogStep) (name : EntryName) : Type 0 where
  pub kept : KeptAnswer
  pub query : Contains answers kept
  pub token : Token
  pub given : Contains kept.tokens token
  pub named : (entry_of token).name ≡ name
  pub same : IsSameClause step.clause (entry_of token).clause

-- so it is, where it was taken from elsewhere
abbrev pub IsGivenStep : List KeptAnswer → LogStep → Type 0
IsGivenStep answers step = (name : EntryName) → step.imported ≡ Some name → IsOfGiven answers step name

abbrev pub ImportsAreGiven : List KeptAnswer → OracleLog → Type 0
ImportsAreGiven answers log =
    (k : ℕ) → k < length log.steps → IsGivenStep answers (slice_index_or log.steps k no_step)

-- each entry that was given for the session's queries is one of the pool's, and so is true in every world of every
-- framework, whatever the side clauses; they were given in the pool's order, from index 0 on and each once; and each
-- step that the session's log took from elsewhere has the name and the clause of one of them
pub record TakesFromPool (pool : Pool) (log : OracleLog) (answers : List KeptAnswer) : Type 0 where
  pub tokens : RestOnPool pool answers
  pub row : AreInRow 0 (tokens_of answers) (length (tokens_of answers))
  pub imports : ImportsAreGiven answers log
