-- What a model of the needed axioms is read as, and what one search of an engine finds.
use Rattle.std.specs.Prelude.{ℕ, ◌<◌, List, length, Option, Some, None, Result, Ok, Err}
use Rattle.plain_lits.specs.declared.halt.Halt.{Halt}
use Rattle.semantics.specs.Frameworks.{Framework}
use Rattle.meaning_atoms.specs.declared.atom.AtomLit.{AtomLit}
use Rattle.oracle_face.specs.declared.face.Found.{Found}
use Rattle.oracle_face.specs.declared.face.Found.TheVariants.{Refuted}
use Rattle.oracle_face.specs.Decoding.{IsModelOf, IsNewLoop, ReadsBack, TellsMembers}
use Rattle.oracle_face.specs.Growing.{IsFound}
use Rattle.oracle_face.specs.Logs.{OracleLog}
use Rattle.framework_solver.specs.declared.reading.Reading.{Reading}
use Rattle.framework_solver.specs.declared.reading.Reading.TheVariants.{Set, Lacks}

-- a model is read as the set, of which it says what is so
pub record IsReadAs (f : Framework) (values : List AtomLit) (set : List ℕ) : Type 0 where
  pub back : IsModelOf f values → ReadsBack f values set

-- the set, or an axiom that the model lacks, which is false under a model that says who is a member
abbrev pub IsReading : Framework → List AtomLit → Reading → Type 0
IsReading f values (Set set) = IsReadAs f values set
IsReading f values (Lacks name) = IsModelOf f values → TellsMembers f values → IsNewLoop f values name

-- what one search comes to: something was found, or the log has a loop clause more that its model lacked
abbrev pub IsTurn : Framework → OracleLog → OracleLog → List AtomLit → Option Found → Type 0
IsTurn f old new goals (Some found) = IsFound f new goals found
IsTurn f old new goals None = length old.steps < length new.steps

-- how many steps it logs that only end it
abbrev pub closes_turn : Result (Option Found) Halt → ℕ
closes_turn (Ok (Some (Refuted step))) = 1
closes_turn _ = 0
