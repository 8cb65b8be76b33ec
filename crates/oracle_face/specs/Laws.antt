-- Laws of what an oracle tells.
use Rattle.std.specs.Prelude.{ℕ, List}
use Rattle.certificate_claims.specs.semantics.specs.Frameworks.{Framework}
use Rattle.certificate_claims.specs.meaning_atoms.specs.declared.atom.AtomLit.{AtomLit}
use Rattle.certificate_claims.specs.meaning_atoms.specs.Literals.{AsksNothing}
use Rattle.certificate_claims.specs.meaning_atoms.specs.Worlds.{IsWorldOf}
use Rattle.certificate_claims.specs.Refutations.{Claim, IsExcluded, IsPlain}
use Rattle.oracle_face.specs.Logs.{OracleLog, IsLog}
use Rattle.oracle_face.specs.Goals.{MakesTrue, RefutesGoals, IsWithinClaim, Refutes}

-- where a step refutes goals, no set of the framework makes them true beside the side clauses
abbrev pub GoalsExcluded : Type 0
GoalsExcluded = (f : Framework) (log : OracleLog) (goals : List AtomLit) (n : ℕ) → IsLog f log
    → RefutesGoals f log goals n → (s : List ℕ) → IsWorldOf f s → MakesTrue f log goals s → ⊥

-- where a step refutes a claim, no set of the framework meets its goals and its side clauses
abbrev pub ClaimExcluded : Type 0
ClaimExcluded = (f : Framework) (log : OracleLog) (claim : Claim) (n : ℕ) → IsLog f log → IsPlain claim
    → Refutes f log claim n → IsExcluded f claim

-- a step that refutes goals refutes the claim that they and the side clauses that they affirm make up
abbrev pub RefutesClaim : Type 0
RefutesClaim = (f : Framework) (log : OracleLog) (claim : Claim) (goals : List AtomLit) (n : ℕ)
    → AsksNothing claim.goals → IsWithinClaim log.sides claim goals → RefutesGoals f log goals n
    → Refutes f log claim n
