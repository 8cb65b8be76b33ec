-- How the entries of a trade come into a log during a query.
use Rattle.std.specs.Prelude.{◌≡◌, ◌⊎◌, ℕ, ◌+◌, ◌≤◌, Bool, false, List, [], ◌∷◌, ◌++◌, length, Option, Some}
use mathlib.Core.List.{IsPrefix}
use Rattle.semantics.specs.Frameworks.{Framework}
use Rattle.oracle_face.specs.declared.entry.Entry.{Entry}
use Rattle.oracle_face.specs.Growing.{Making, Grows}
use Rattle.oracle_face.specs.Logs.{OracleLog}
use Rattle.entry_taking.specs.Taking.{ImportsOrMayNot}
use Rattle.framework_solver.specs.Solvers.{AreInForce}
use Rattle.oracle_core.specs.Engines.{EngineState}
use Rattle.framework_solver.specs.Stepping.{GoesOnBySteps}
use Rattle.oracle_core.specs.declared.trading.TheConstants.{MAX_TAKEN}

-- any side clauses
abbrev pub AnySide : Making
AnySide literals set = Unit {0}

-- an entry is looked at once the log has the axioms that the framework needs
pub record LooksAt (f : Framework) (own : ℕ) (entry : Entry) (old at next : OracleLog) : Type 0 where
  pub before : Grows AnySide old at
  pub in_force : AreInForce f at
  pub after : Grows AnySide at next
  pub comes : ImportsOrMayNot f own entry at next

-- entries are looked at one after the other, each where the log has what came of those before it
abbrev pub TakesIn : Framework → ℕ → List Entry → OracleLog → OracleLog → Type 0
TakesIn f own [] old new = Grows AnySide old new
TakesIn f own (entry ∷ more) old new =
    (at next : OracleLog) × LooksAt f own entry old at next × TakesIn f own more next new

-- of the entries that a trade has waiting, the first ones were looked at, and these are left
pub record TakesFrom (f : Framework) (own : ℕ) (waiting : List Entry) (left : Option (List Entry))
    (old new : OracleLog) : Type 0 where
  pub given : List Entry
  pub rest : List Entry
  pub waiting_is : waiting ≡ given ++ rest
  pub left_is : left ≡ Some rest
  pub taken : TakesIn f own given old new

-- none is left, or as many were taken as are taken before one search
abbrev pub IsEmptied : List Entry → Option (List Entry) → Type 0
IsEmptied waiting left =
    (left ≡ Some []) ⊎ ((rest : List Entry) × (left ≡ Some rest) × (MAX_TAKEN + length rest ≤ length waiting))

-- both at once
pub record TakesAll (f : Framework) (own : ℕ) (waiting : List Entry) (left : Option (List Entry))
    (old new : OracleLog) : Type 0 where
  pub from : TakesFrom f own waiting left old new
  pub emptied : IsEmptied waiting left

-- what a query leaves of an engine and a trade: the trade gave more; where memory wasn't refused on the way, each entry
-- that went from the list was looked at, and the log went on by steps of the session where the trade gave what it gave
pub record Trades (before after : EngineState) (left_before left_after : Option (List Entry))
    (gave_before gave_after : List Entry) (refused_before refused_after : Bool) : Type 0 where
  pub number : after.number ≡ before.number
  pub framework : after.framework ≡ before.framework
  pub grows : Grows AnySide before.log after.log
  pub kept : refused_after ≡ false → refused_before ≡ false
  pub taken : refused_after ≡ false → (waiting : List Entry) → left_before ≡ Some waiting
      → TakesFrom before.framework before.number waiting left_after before.log after.log
  pub gave : IsPrefix gave_before gave_after
  pub stepped : refused_after ≡ false → GoesOnBySteps before.framework before.number gave_after before.log after.log
