-- A pool's tokens, and what a look into it finds.
use Rattle.std.specs.Prelude.{◌≡◌, ◌+◌, ◌<◌, ℕ, List, All, length, slice_index_or}
use Rattle.boxcar.specs.Table.{Shows}
use Rattle.oracle_face.specs.Entries.{IsShareable}
use Rattle.oracle_face.specs.declared.entry.Entry.{Entry}
use Rattle.clause_pool.specs.declared.pool.Pool.{Pool}
use Rattle.clause_pool.specs.declared.pooled.Pooled.{Pooled}
use Rattle.clause_pool.specs.declared.pooled.Token.{Token}

-- the token was given by this pool, for an entry that may be shared
pub record IsTokenOf (pool : Pool) (token : Token) : Type 0 where
  pub shown : Shows pool.entries token.pushed
  pub shareable : IsShareable token.pushed.value

-- the entry that was shared for the token
abbrev pub entry_of : Token → Entry
entry_of token = token.pushed.value

-- the index at which it stands in the pool
abbrev pub index_of : Token → ℕ
index_of token = token.pushed.index

-- each of the tokens was given by this pool
abbrev pub AreTokensOf : Pool → List Token → Type 0
AreTokensOf pool tokens = All (IsTokenOf pool) tokens

-- the tokens stand at the indexes from the first one on, one after the other, and this is the next index
pub record AreInRow (first : ℕ) (tokens : List Token) (next : ℕ) : Type 0 where
  pub each : (k : ℕ) (d : Token) → k < length tokens → index_of (slice_index_or tokens k d) ≡ first + k
  pub next_is : next ≡ first + length tokens

-- the pool is the same; where the tokens were all its own, they are now; and where they were in a row, they are now
pub record HoldsMore (old : Pool) (before : List Token) (low : ℕ) (new : Pool) (after : List Token) (high : ℕ) : Type 0
  where
    pub same : new ≡ old
    pub own : AreTokensOf old before → AreTokensOf old after
    pub row : (first : ℕ) → AreInRow first before low → AreInRow first after high

-- the entries stand at the indexes from the first on, one after the other
abbrev pub AreFrom : ℕ → List Pooled → Type 0
AreFrom from entries = (k : ℕ) (d : Pooled) → k < length entries → (slice_index_or entries k d).index ≡ from + k
