-- The direct tests of answers that show no set, and steps that refute one claim.
use Rattle.std.proofs.Common.{inl, ℕ, ◌<◌, List, [], ◌∷◌, length, refl, arith}
use Rattle.std.specs.Prelude.{Contains, slice_index_or, Option}
use Rattle.std.proofs.lemmas.List.{get_or_default}
use Rattle.semantics.specs.Frameworks.{Framework}
use Rattle.meaning_atoms.specs.declared.atom.AtomLit.{AtomLit}
use Rattle.meaning_atoms.specs.Literals.{AsksNothing}
use Rattle.iccma_tasks.specs.declared.task.Problem.{Problem}
use Rattle.iccma_tasks.specs.declared.task.Semantics.{Semantics}
use Rattle.iccma_tasks.specs.Tasks.{Asked, task_of}
use Rattle.certificate_claims.specs.declared.row.Row.TheVariants.{Excluded}
use Rattle.certificate_claims.specs.Acceptance.{Tests}
use Rattle.certificate_claims.specs.Claims.{claim_of}
use Rattle.certificate_claims.specs.Refutations.{Claim}
use Rattle.oracle_face.specs.Goals.{Refutes, RefutesGoals}
use Rattle.oracle_face.specs.Logs.{OracleLog}
use Rattle.oracle_face.proofs.Refuting.{refutes_claim}
use Rattle.enumerate_block.specs.Ranges.{AreRefuted}
use Rattle.enumerate_block.proofs.StepLemmas.{refuted_first, refuted_none}

abbrev pub asked_of : Problem → Semantics → Option ℕ → Asked
asked_of problem semantics number = record { task = task_of problem semantics; number = number }

pub index_there : (sets : List (List ℕ)) (i : ℕ) → i < length sets → Contains sets (slice_index_or sets i [])
index_there sets i lt = (i, lt, get_or_default sets i (slice_index_or sets i []) [] lt)

pub tests_none : (f : Framework) (asked : Asked) (goals : List AtomLit) → Tests f asked (Excluded goals) [] []
tests_none f asked goals = record {
  shape = tt;
  witnesses = λ k lt. absurd (omega arith);
  order = tt;
  grounded = tt;
  count = refl;
  each_set = λ k lt. absurd (omega arith);
}

-- ---- one claim

pub refuted_one : (f : Framework) (log : OracleLog) (claim : Claim) (step : ℕ) → Refutes f log claim step
    → AreRefuted f log (claim ∷ []) (step ∷ [])
refuted_one f log claim step h = refuted_first f log claim step [] [] h (refuted_none f log)

-- goals that a step refutes are a claim that it refutes
pub goals_refuted : (f : Framework) (log : OracleLog) (goals : List AtomLit) (step : ℕ) → AsksNothing goals
    → RefutesGoals f log goals step → Refutes f log (claim_of goals []) step
goals_refuted f log goals step plain h =
    refutes_claim f log (claim_of goals []) goals step plain (record { each = λ l c. inl c }) h
