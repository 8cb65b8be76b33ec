-- What contracts see of a propagator, and what its calls tell and change.
use Rattle.std.specs.Prelude.{◌≡◌, ◌≢◌, ◌⊎◌, ℕ, ◌<◌, ◌≤◌, List, [], ◌∷◌, ◌++◌, length, take, Contains}
use Rattle.std.specs.Prelude.{slice_index, slice_index_or, slice_set}
use Rattle.plain_lits.specs.declared.lit.Lit.{Lit}
use Rattle.plain_lits.specs.Literals.{negation}
use Rattle.plain_lits.specs.HintCheck.{clause_at, IsNamed, IsFalsified, IsUnit}
use Rattle.plain_lits.specs.Trails.{VarsDiffer, AreLevels}
use Rattle.clause_watches.specs.declared.pair.Pair.{Pair}
use Rattle.unit_propagate.specs.declared.propagator.Propagated.{Propagated}
use Rattle.unit_propagate.specs.declared.propagator.Propagated.TheVariants.{Conflict, Quiet}
use Rattle.clause_watches.specs.Arenas.{pair_of}
use Rattle.clause_watches.specs.Picks.{WatchesLast}

-- the clauses in the order of their ids, which count from 1, each with its watched pair; the true literals in the
-- order in which they came, how many there were before each level, and for each, by its index, the id of the clause
-- that made it true, or 0; and the number below which each variable is known
pub record Search : Type 0 where
  pub clauses : List (List Lit)
  pub pairs : List Pair
  pub lits : List Lit
  pub starts : List ℕ
  pub reasons : List ℕ
  pub vars : ℕ

-- a clause made a literal true: it holds the literal, and its others were false before
pub record IsReason (clauses : List (List Lit)) (lits : List Lit) (index id : ℕ) : Type 0 where
  pub named : IsNamed clauses id
  pub there : (d : Lit) → Contains (clause_at clauses id) (slice_index_or lits index d)
  pub others : (l d : Lit) → Contains (clause_at clauses id) l → l ≢ slice_index_or lits index d
      → Contains (take index lits) (negation l)

-- the form of a search: each variable once, each literal within the known ones, levels in order, and reasons
pub record IsSearch (s : Search) : Type 0 where
  pub apart : VarsDiffer s.lits
  pub within : (l : Lit) → Contains s.lits l → l.var < s.vars
  pub short : length s.lits ≤ s.vars
  pub levels : AreLevels s.starts (length s.lits)
  pub reasons : (index : ℕ) → index < length s.lits → slice_index s.reasons index ≢ 0
      → IsReason s.clauses s.lits index (slice_index s.reasons index)

-- no clause is false, and none has all literals false but one, which is unset
pub record IsQuiet (clauses : List (List Lit)) (lits : List Lit) : Type 0 where
  pub not_false : (id : ℕ) → IsNamed clauses id → IsFalsified negation lits (clause_at clauses id) → ⊥
  pub not_unit : (id : ℕ) (l : Lit) → IsNamed clauses id → IsUnit negation lits (clause_at clauses id) l → ⊥

-- a clause is all false
pub record IsConflict (clauses : List (List Lit)) (lits : List Lit) (id : ℕ) : Type 0 where
  pub named : IsNamed clauses id
  pub all_false : IsFalsified negation lits (clause_at clauses id)

-- what propagation tells
abbrev pub IsAnswer : Search → Propagated → Type 0
IsAnswer s (Conflict id) = IsConflict s.clauses s.lits id
IsAnswer s Quiet = IsQuiet s.clauses s.lits

-- of each watched pair, where the one literal is false the other is true
pub record AreGuarded (pairs : List Pair) (lits : List Lit) : Type 0 where
  pub first : (p : Pair) → Contains pairs p → p.first ≢ p.second
      → Contains lits (negation p.first) → Contains lits p.second
  pub second : (p : Pair) → Contains pairs p → p.first ≢ p.second
      → Contains lits (negation p.second) → Contains lits p.first

abbrev pub IsGuarded : Search → Propagated → Type 0
IsGuarded s (Conflict id) = Unit {0}
IsGuarded s Quiet = AreGuarded s.pairs s.lits

-- a level has begun with a literal, which has no reason
pub record Decides (old new : Search) (lit : Lit) : Type 0 where
  pub clauses : new.clauses ≡ old.clauses
  pub pairs : new.pairs ≡ old.pairs
  pub lits : new.lits ≡ old.lits ++ lit ∷ []
  pub starts : new.starts ≡ old.starts ++ length old.lits ∷ []
  pub reasons : new.reasons ≡ slice_set old.reasons (length old.lits) 0
  pub vars : new.vars ≡ old.vars

-- the levels above one are taken back: its true literals, in their order and with their reasons, are those it had
pub record GoesBack (old new : Search) (level : ℕ) : Type 0 where
  pub clauses : new.clauses ≡ old.clauses
  pub pairs : new.pairs ≡ old.pairs
  pub lits : new.lits ≡ take (slice_index_or old.starts level (length old.lits)) old.lits
  pub starts : new.starts ≡ take level old.starts
  pub reasons : new.reasons ≡ old.reasons
  pub vars : new.vars ≡ old.vars

-- literals have come, each with a reason
pub record HasGrown (old new : Search) : Type 0 where
  pub clauses : new.clauses ≡ old.clauses
  pub starts : new.starts ≡ old.starts
  pub vars : new.vars ≡ old.vars
  pub more : (rest : List Lit) × (new.lits ≡ old.lits ++ rest)
  pub reasons : (i : ℕ) → i < length old.lits → slice_index new.reasons i ≡ slice_index old.reasons i
  pub new_reasons : (i : ℕ) → length old.lits ≤ i → i < length new.lits → slice_index new.reasons i ≢ 0

-- the true literals, their levels and their reasons are the same, and no variable is forgotten
pub record StaysAssigned (old new : Search) : Type 0 where
  pub lits : new.lits ≡ old.lits
  pub starts : new.starts ≡ old.starts
  pub reasons : (i : ℕ) → i < length old.lits → slice_index new.reasons i ≡ slice_index old.reasons i
  pub vars : old.vars ≤ new.vars

-- all is as before, but that more variables may be known
pub record StaysSearch (old new : Search) : Type 0 where
  pub clauses : new.clauses ≡ old.clauses
  pub pairs : new.pairs ≡ old.pairs
  pub assigned : StaysAssigned old new

-- there is one clause more, whose variables are known, and which watches the literals that became false last
pub record GainsClause (old new : Search) (clause : List Lit) (id : ℕ) : Type 0 where
  pub clauses : new.clauses ≡ old.clauses ++ clause ∷ []
  pub id_is : id ≡ length new.clauses
  pub known : (l : Lit) → Contains clause l → l.var < new.vars
  pub watched : WatchesLast old.lits clause (pair_of new.pairs id)
  pub assigned : StaysAssigned old new

-- there is one clause more, and its literal is true with it as its reason
pub record Learns (old new : Search) (clause : List Lit) (lit : Lit) (id : ℕ) : Type 0 where
  pub clauses : new.clauses ≡ old.clauses ++ clause ∷ []
  pub id_is : id ≡ length new.clauses
  pub watched : WatchesLast old.lits clause (pair_of new.pairs id)
  pub lits : new.lits ≡ old.lits ++ lit ∷ []
  pub starts : new.starts ≡ old.starts
  pub reasons : (i : ℕ) → i < length old.lits → slice_index new.reasons i ≡ slice_index old.reasons i
  pub reason : slice_index new.reasons (length old.lits) ≡ id
  pub vars : old.vars ≤ new.vars

-- a level has begun, whose literals without a clause are those of the block that weren't true
pub record GainsBlock (old new : Search) (block : List Lit) : Type 0 where
  pub clauses : new.clauses ≡ old.clauses
  pub starts : new.starts ≡ old.starts ++ length old.lits ∷ []
  pub more : (rest : List Lit) × (new.lits ≡ old.lits ++ rest) × ((l : Lit) → Contains rest l → Contains block l)
  pub block_true : (l : Lit) → Contains block l → Contains new.lits l
  pub known : (l : Lit) → Contains block l → l.var < new.vars
  pub reasons : (i : ℕ) → i < length old.lits → slice_index new.reasons i ≡ slice_index old.reasons i
  pub new_reasons : (i : ℕ) → length old.lits ≤ i → i < length new.lits → slice_index new.reasons i ≡ 0
  pub vars : old.vars ≤ new.vars

-- a clause watches a literal: it has two different watched literals, and this is one of them
pub record IsWatchedBy (s : Search) (id : ℕ) (l : Lit) : Type 0 where
  pub apart : (pair_of s.pairs id).first ≢ (pair_of s.pairs id).second
  pub one_of : ((pair_of s.pairs id).first ≡ l) ⊎ ((pair_of s.pairs id).second ≡ l)
