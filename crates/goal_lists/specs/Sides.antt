-- Side clauses of a log under their numbers.
use Rattle.std.specs.Prelude.{ℕ, List, [], ◌∷◌, Contains}
use Rattle.semantics.specs.Frameworks.{Framework}
use Rattle.meaning_atoms.specs.declared.atom.Atom.{Atom}
use Rattle.meaning_atoms.specs.declared.atom.AtomLit.{AtomLit}
use Rattle.oracle_face.specs.declared.face.Found.{Found}
use Rattle.oracle_face.specs.Growing.{IsFound}
use Rattle.oracle_face.specs.Logs.{IsNumberOf, IsSameClause, OracleLog, SideClause, side_at}
use Rattle.goal_lists.specs.Asking.{goals_of}

-- the number is that of a side clause with these literals
pub record IsAskOf (sides : List SideClause) (clause : List AtomLit) (n : ℕ) : Type 0 where
  pub number : IsNumberOf sides n
  pub same : IsSameClause (side_at sides n).literals clause

-- numbers of side clauses that are made from sets: each is that of one of the sets, and each set has one
pub record AreAsksOf (side : List ℕ → List AtomLit) (sides : List SideClause) (sets : List (List ℕ)) (asks : List ℕ)
    : Type 0 where
  pub each : (n : ℕ) → Contains asks n → (e : List ℕ) × Contains sets e × IsAskOf sides (side e) n
  pub all : (e : List ℕ) → Contains sets e → (n : ℕ) × Contains asks n × IsAskOf sides (side e) n

-- what was found for goals with a side clause of the log, the one with these literals
abbrev pub IsFoundBeside : Framework → OracleLog → Atom → List ℕ → List ℕ → List ℕ → List AtomLit → Found → Type 0
IsFoundBeside f log mode ins outs ranged side found =
    (n : ℕ) × IsAskOf log.sides side n × IsFound f log (goals_of mode ins outs ranged (n ∷ [])) found
