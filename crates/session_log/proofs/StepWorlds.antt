-- What the steps of a log say of worlds.
use Rattle.std.proofs.Common.{ℕ, ◌-◌, List, arith}
use Rattle.std.specs.Prelude.{slice_index_or}
use Rattle.std.proofs.lemmas.List.Elements.{Contains-get_or}
use Rattle.semantics.specs.Frameworks.{Framework}
use Rattle.meaning_atoms.specs.Literals.{AsksNothing}
use Rattle.meaning_atoms.specs.Worlds.{World, IsWorld, IsTrueBeside}
use Rattle.meaning_atoms.proofs.Clauses.{elsewhere}
use Rattle.oracle_face.specs.Logs.{OracleLog, IsLog, IsNumberOf, literals_of, step_at}
use Rattle.oracle_face.proofs.StepTruth.{steps_true}
use Rattle.session_log.specs.Guards.{IsGuarded}
use Rattle.session_log.specs.Truth.{IsTrueOfWorlds, MayBeShared}

step_beside : (f : Framework) (log : OracleLog) (number : ℕ) → IsLog f log → IsNumberOf log.steps number
    → (w : World) → IsWorld w → IsTrueBeside w (literals_of log.sides) (step_at log.steps number).clause
step_beside f log number form is w world =
    let low = is.from_one in
    let high = is.within in
    steps_true f w log world form (number - 1) (omega arith)

pub step_true : (f : Framework) (log : OracleLog) (number : ℕ) → IsLog f log → IsNumberOf log.steps number
    → IsTrueOfWorlds log number
step_true f log number form is = record {
  beside = step_beside f log number form is;
  valid = λ plain w world others. elsewhere w (literals_of log.sides) others (step_at log.steps number).clause plain
      (step_beside f log number form is w world);
}

pub step_shared : (f : Framework) (log : OracleLog) (number : ℕ) → IsLog f log → IsGuarded log
    → IsNumberOf log.steps number → AsksNothing (step_at log.steps number).clause → MayBeShared log number
step_shared f log number form guards is plain = record {
  valid = (step_true f log number form is).valid plain;
  plain = plain;
  within = λ k d lt.
      let c = Contains-get_or (step_at log.steps number).clause k d lt in
      guards.within number (slice_index_or (step_at log.steps number).clause k d) is c (plain _ c);
}
