-- The verdict on a certificate: accepted, or the first failure in the order in which it is looked at.
use Rattle.std.specs.Prelude.{◌≡◌, ◌⊎◌, ℕ, ◌+◌, ◌-◌, ◌<◌, List, [], ◌∷◌, ◌++◌, length, map, take, flat_map, codes, Contains, slice_index_or}
use Rattle.std.specs.List.{range_with_len}
use Rattle.iccma_tasks.specs.semantics.specs.Frameworks.{Framework}
use Rattle.aba_axioms.specs.meaning_atoms.specs.declared.atom.AtomLit.{AtomLit}
use Rattle.iccma_tasks.specs.declared.answer.Answer.{Answer}
use Rattle.iccma_tasks.specs.Tasks.{Asked}
use Rattle.certificate_claims.specs.declared.certificate.Certificate.{Certificate}
use Rattle.certificate_claims.specs.declared.certificate.Step.{Step}
use Rattle.certificate_claims.specs.declared.row.Row.{Row}
use Rattle.certificate_claims.specs.declared.verdict.Verdict.{Verdict}
use Rattle.certificate_claims.specs.declared.verdict.Verdict.TheVariants.{Accepted, Rejected}
use Rattle.certificate_claims.specs.declared.verdict.Cause.{Cause}
use Rattle.certificate_claims.specs.declared.verdict.Cause.TheVariants.{AnswerShape, BadWitness, SetCount, BadSet, RefutationCount, BadStep, OpenLiteral}
use Rattle.certificate_claims.specs.Acceptance.{IsShaped, PassesTest, PassesOrder, PassesGrounded, TakesSets, PassesSet, no_claim, no_refutation}
use Rattle.certificate_claims.specs.Claims.{claims, row_of, sets_of}
use Rattle.certificate_claims.specs.Refutations.{Claim, IsClosed, StepHolds, no_step, step_clause}

-- the names of the causes, as they are printed
abbrev pub cause_name : Cause → List ℕ
cause_name AnswerShape = codes "AnswerShape"
cause_name BadWitness = codes "BadWitness"
cause_name SetCount = codes "SetCount"
cause_name BadSet = codes "BadSet"
cause_name RefutationCount = codes "RefutationCount"
cause_name BadStep = codes "BadStep"
cause_name OpenLiteral = codes "OpenLiteral"

-- what is looked at; sets, refutations and steps by index
pub data Look : Type 0 where
  at_shape : Look
  at_witness : ℕ → Look
  at_order : Look
  at_set_count : Look
  at_set : ℕ → Look
  at_refutation_count : Look
  at_step : ℕ → ℕ → Look
  at_last : ℕ → Look

-- the claim, and the steps of the refutation, at an index
abbrev pub claim_at : Framework → Row → Certificate → ℕ → Claim
claim_at f row certificate r = slice_index_or (claims f row certificate.sets) r no_claim

abbrev pub steps_at : Certificate → ℕ → List Step
steps_at certificate r = (slice_index_or certificate.refutations r no_refutation).steps

-- there is a step, and each literal of the last step's clause is closed
pub record EndsClosed (f : Framework) (claim : Claim) (steps : List Step) : Type 0 where
  pub some_step : 0 < length steps
  pub closed : (l : AtomLit) → Contains (step_clause claim.sides (slice_index_or steps (length steps - 1) no_step)) l
      → IsClosed f claim l

-- what has to be so where it is looked at
abbrev pub PassesLook : Framework → Asked → Row → List (List ℕ) → Certificate → Look → Type 0
PassesLook f asked row shown certificate at_shape = IsShaped row
PassesLook f asked row shown certificate (at_witness k) = PassesTest f asked row (slice_index_or shown k [])
PassesLook f asked row shown certificate at_order = PassesOrder f row × PassesGrounded f asked row
PassesLook f asked row shown certificate at_set_count = TakesSets row (length certificate.sets)
PassesLook f asked row shown certificate (at_set k) =
    PassesSet f asked row k (slice_index_or certificate.sets k [])
PassesLook f asked row shown certificate at_refutation_count =
    length certificate.refutations ≡ length (claims f row certificate.sets)
PassesLook f asked row shown certificate (at_step r k) =
    StepHolds f (claim_at f row certificate r).sides (take k (steps_at certificate r))
    (slice_index_or (steps_at certificate r) k no_step)
PassesLook f asked row shown certificate (at_last r) =
    EndsClosed f (claim_at f row certificate r) (steps_at certificate r)

-- what is told where it isn't so
abbrev pub told : Certificate → Look → Verdict
told certificate at_shape = Rejected AnswerShape 0 0
told certificate (at_witness k) = Rejected BadWitness 0 (k + 1)
told certificate at_order = Rejected BadWitness 0 0
told certificate at_set_count = Rejected SetCount 0 0
told certificate (at_set k) = Rejected BadSet 0 (k + 1)
told certificate at_refutation_count = Rejected RefutationCount 0 0
told certificate (at_step r k) = Rejected BadStep (r + 1) (k + 1)
told certificate (at_last r) = Rejected OpenLiteral (r + 1) (length (steps_at certificate r))

-- the indices of a list of this length
abbrev pub indices : ℕ → List ℕ
indices n = range_with_len 0 n

-- a refutation's steps, and then its last clause
abbrev pub refutation_looks : Certificate → ℕ → List Look
refutation_looks certificate r = map (at_step r) (indices (length (steps_at certificate r))) ++ at_last r ∷ []

-- all that is looked at, in order
abbrev pub looks : List (List ℕ) → Certificate → List Look
looks shown certificate =
    at_shape ∷ (map at_witness (indices (length shown)) ++ (at_order ∷ at_set_count ∷
    (map at_set (indices (length certificate.sets)) ++ (at_refutation_count ∷
    flat_map (refutation_looks certificate) (indices (length certificate.refutations))))))

-- what is found: Accepted where all that is looked at passes, and else what is told of the first that doesn't
abbrev pub Finds : (Look → Type 0) → (Look → Verdict) → List Look → Verdict → Type 0
Finds passes tells [] verdict = verdict ≡ Accepted
Finds passes tells (look ∷ more) verdict =
    (passes look × Finds passes tells more verdict) ⊎ ((passes look → ⊥) × (verdict ≡ tells look))

-- the verdict on the certificate for the answer
abbrev pub IsVerdict : Framework → Asked → Answer → Certificate → Verdict → Type 0
IsVerdict f asked answer certificate verdict =
    Finds (PassesLook f asked (row_of f asked answer) (sets_of answer) certificate) (told certificate)
    (looks (sets_of answer) certificate) verdict
