-- What calls leave of an oracle.
use Rattle.std.specs.Prelude.{◌≡◌, ℕ, ◌+◌, ◌*◌, List, length, Option}
use Rattle.plain_lits.specs.declared.halt.Halt.{Halt}
use Rattle.plain_lits.specs.Units.{Units}
use Rattle.semantics.specs.Frameworks.{Framework}
use Rattle.meaning_atoms.specs.declared.atom.AtomLit.{AtomLit}
use Rattle.oracle_face.specs.declared.oracle.Oracle.{Ghosts as OracleWords}
use Rattle.oracle_face.specs.Growing.{HasRun, Making, NoSide, OnlySide}
use Rattle.oracle_face.specs.Logs.{IsKept}

-- what calls leave of an oracle, by the words of its trait, whatever they answer: they have run on the framework that
-- it had, making side clauses of the kind; it has that framework still, its log is in order, and it keeps what it
-- promises beside
pub record Ran {S : Type 0} (oracle : OracleWords S) (making : Framework → Making) (most : ℕ) (old new : S)
    (before after : Units) (halt : Option Halt) : Type 0 where
  pub run : HasRun (making (oracle.framework old)) most (oracle.framework old) (oracle.log old) (oracle.log new)
      (oracle.pending new) before after halt
  pub framework : oracle.framework new ≡ oracle.framework old
  pub kept : IsKept (oracle.framework new) (oracle.log new)
  pub follows : oracle.follows old new

-- calls that log so many steps at most that only end a search: two for each side clause that is there then, and two
abbrev pub RanInAll : {S : Type 0} → OracleWords S → (Framework → Making) → S → S → Units → Units → Option Halt → Type 0
RanInAll oracle making old new before after halt =
    Ran oracle making (2 * length (oracle.log new).sides + 2) old new before after halt

-- no side clause is made
abbrev pub MadeNone : Framework → Making
MadeNone f = NoSide

-- the side clause with these literals is made, from this set
abbrev pub MadeOnly : List AtomLit → List ℕ → Framework → Making
MadeOnly side from f = OnlySide side from
