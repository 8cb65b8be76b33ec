-- What the steps of a log say of worlds, and which may be handed to others.
use Rattle.std.specs.Prelude.{ℕ, All}
use Rattle.meaning_atoms.specs.Atoms.{IsLit}
use Rattle.meaning_atoms.specs.Literals.{AsksNothing}
use Rattle.meaning_atoms.specs.Worlds.{World, IsWorld, IsTrueBeside, IsValid}
use Rattle.oracle_face.specs.Logs.{OracleLog, literals_of, step_at}

-- the step's clause is true in every world beside the log's side clauses, and valid where it asks for none
pub record IsTrueOfWorlds (log : OracleLog) (number : ℕ) : Type 0 where
  pub beside : (w : World) → IsWorld w → IsTrueBeside w (literals_of log.sides) (step_at log.steps number).clause
  pub valid : AsksNothing (step_at log.steps number).clause → IsValid (step_at log.steps number).clause

-- an entry may have the step's clause: it is valid, asks for no side clause, and has its numbers within their bounds
pub record MayBeShared (log : OracleLog) (number : ℕ) : Type 0 where
  pub valid : IsValid (step_at log.steps number).clause
  pub plain : AsksNothing (step_at log.steps number).clause
  pub within : All IsLit (step_at log.steps number).clause
