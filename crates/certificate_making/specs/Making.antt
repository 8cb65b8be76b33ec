-- Refutations that are made from steps of a log.
use Rattle.std.specs.Prelude.{◌≡◌, ℕ, ◌<◌, List, [], All, length, slice_index_or, Option, None}
use Rattle.semantics.specs.Frameworks.{Framework}
use Rattle.meaning_atoms.specs.declared.atom.AtomLit.{AtomLit}
use Rattle.certificate_claims.specs.Acceptance.{no_refutation}
use Rattle.certificate_claims.specs.Refutations.{Claim as TableClaim, IsPlain}
use Rattle.certificate_claims.specs.declared.certificate.Refutation.{Refutation}
use Rattle.certificate_text.specs.Written.{IsWritableStep}
use Rattle.oracle_face.specs.Goals.{Refutes}
use Rattle.oracle_face.specs.Logs.{OracleLog, SideClause}
use Rattle.certificate_making.specs.Refuted.{AreRefuting}
use Rattle.certificate_making.specs.ClaimSides.{IsAskOf}
use Rattle.answer_claims.specs.declared.claim.Claim.{Claim}
use Rattle.answer_claims.specs.ClaimParts.{IsClaimOf}

-- the numbers that the log has these side clauses under, in order
pub record AreAsks (sides : List SideClause) (clauses : List (List AtomLit)) (asks : List (Option ℕ)) : Type 0 where
  pub long : length asks ≡ length clauses
  pub each : (i : ℕ) → i < length asks
      → IsAskOf sides (slice_index_or clauses i []) (slice_index_or asks i None)

-- the refutation refutes the claim that the parts are of, where the step does, and a text can hold it
abbrev pub IsMade : Framework → OracleLog → Claim → ℕ → Refutation → Type 0
IsMade f log parts step made = (claim : TableClaim) → IsClaimOf f parts claim → IsPlain claim → Refutes f log claim step
    → AreRefuting f claim made.steps × All IsWritableStep made.steps

-- so it is with each of the claims and its step
pub record AreMade (f : Framework) (log : OracleLog) (parts : List Claim) (steps : List ℕ)
    (made : List Refutation) : Type 0 where
  pub long : length made ≡ length parts
  pub each : (k : ℕ) (d : Claim) → k < length parts
      → IsMade f log (slice_index_or parts k d) (slice_index_or steps k 0) (slice_index_or made k no_refutation)
