-- What a contract sees of a trail.
use Rattle.std.specs.Prelude.{◌≡◌, ℕ, ◌<◌, ◌≤◌, List, length, Contains, slice_index, slice_index_or}
use Rattle.plain_lits.specs.declared.lit.Lit.{Lit}

-- the true literals in the order in which they came, and the number below which each variable has room
pub record AssignmentState : Type 0 where
  pub lits : List Lit
  pub vars : ℕ

-- these, and how many literals there were before each level began; level 0 begins with no literal, and isn't listed
pub record TrailState : Type 0 where
  pub lits : List Lit
  pub starts : List ℕ
  pub vars : ℕ

-- how many literals there are below a level; a level past the last has all
abbrev pub level_start : TrailState → ℕ → ℕ
level_start t k = slice_index_or t.starts k (length t.lits)

-- no variable has two literals
abbrev pub VarsDiffer : List Lit → Type 0
VarsDiffer lits = (i j : ℕ) (d : Lit) → i < length lits → j < length lits
    → (slice_index_or lits i d).var ≡ (slice_index_or lits j d).var → i ≡ j

-- levels begin in order, and none after the last literal
pub record AreLevels (starts : List ℕ) (count : ℕ) : Type 0 where
  pub rise : (i j : ℕ) → i ≤ j → j < length starts → slice_index starts i ≤ slice_index starts j
  pub within : (k : ℕ) → k < length starts → slice_index starts k ≤ count

-- the form of an assignment: each variable once, and within the room
pub record IsAssignmentState (a : AssignmentState) : Type 0 where
  pub apart : VarsDiffer a.lits
  pub within : (l : Lit) → Contains a.lits l → l.var < a.vars
  pub short : length a.lits ≤ a.vars

-- the form of a trail: that of an assignment, and levels in order
pub record IsTrailState (t : TrailState) : Type 0 where
  pub apart : VarsDiffer t.lits
  pub within : (l : Lit) → Contains t.lits l → l.var < t.vars
  pub short : length t.lits ≤ t.vars
  pub levels : AreLevels t.starts (length t.lits)
