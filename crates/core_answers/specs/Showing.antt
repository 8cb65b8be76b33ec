-- What shows an answer.
use Rattle.std.specs.Prelude.{◌<◌, ℕ, Bool, true, false, List, [], ◌∷◌, length, slice_index_or}
use Rattle.semantics.specs.Frameworks.{Framework}
use Rattle.iccma_tasks.specs.declared.answer.Answer.TheVariants.{Sets}
use Rattle.iccma_tasks.specs.declared.task.Semantics.{Semantics}
use Rattle.certificate_claims.specs.declared.verdict.Cause.TheVariants.{RefutationCount}
use Rattle.certificate_claims.specs.declared.verdict.Verdict.{Verdict}
use Rattle.certificate_claims.specs.declared.verdict.Verdict.TheVariants.{Accepted, Rejected}
use Rattle.oracle_face.specs.Logs.{OracleLog}
use Rattle.session_log.specs.Ends.{IsShownBy, some_asked}

-- whether a verdict is told of no direct test
abbrev pub is_past_tests : Verdict → Bool
is_past_tests Accepted = true
is_past_tests (Rejected RefutationCount r s) = true
is_past_tests verdict = false

-- the log shows each of the sets as an answer to the query for one extension
abbrev pub ShowAlone : Framework → Semantics → OracleLog → List (List ℕ) → Type 0
ShowAlone f semantics log sets =
    (k : ℕ) → k < length sets
    → IsShownBy f (some_asked semantics) (Sets (slice_index_or sets k [] ∷ [])) [] log
