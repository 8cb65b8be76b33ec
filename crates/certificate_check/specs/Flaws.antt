-- The flaws of refutations.
use Rattle.std.specs.Prelude.{◌≡◌, ◌⊎◌, ℕ, ◌+◌, ◌-◌, ◌<◌, List, [], length, slice_index_or, Option, Some, None}
use Rattle.semantics.specs.Frameworks.{Framework}
use Rattle.certificate_claims.specs.declared.certificate.Step.{Step}
use Rattle.certificate_claims.specs.declared.verdict.Verdict.{Verdict}
use Rattle.certificate_claims.specs.declared.verdict.Verdict.TheVariants.{Accepted, Rejected}
use Rattle.certificate_claims.specs.declared.verdict.Cause.TheVariants.{BadStep as IsBadStep, OpenLiteral as IsOpen}
use Rattle.certificate_claims.specs.declared.certificate.Refutation.{Refutation}
use Rattle.certificate_claims.specs.Acceptance.{no_refutation}
use Rattle.certificate_claims.specs.Refutations.{no_step, step_clause}
use Rattle.answer_claims.specs.declared.claim.Claim.{Claim}
use Rattle.answer_claims.specs.declared.sides.SideKind.TheVariants.{Outside}
use Rattle.certificate_check.specs.declared.refuting.Flaw.{Flaw}
use Rattle.certificate_check.specs.declared.refuting.Flaw.TheVariants.{None as NoFlaw, BadStep, OpenLiteral}
use Rattle.answer_claims.specs.SideClauses.{sides_of}
use Rattle.certificate_check.specs.Standing.{AreClosed, StandsAt, IsFirstWithout}

-- there is a step, and each literal of the last one's clause is closed
pub record EndsClosedBy (f : Framework) (c : Claim) (steps : List Step) : Type 0 where
  pub some_step : 0 < length steps
  pub closed : AreClosed f c (step_clause (sides_of f c.kind c.sides) (slice_index_or steps (length steps - 1) no_step))

-- each step stands
abbrev pub AllStand : Framework → Claim → List Step → Type 0
AllStand f c steps = (k : ℕ) → k < length steps → StandsAt f (sides_of f c.kind c.sides) steps k

-- the first flaw of a refutation
abbrev pub HasFlaw : Framework → Claim → List Step → Flaw → Type 0
HasFlaw f c steps NoFlaw = AllStand f c steps × EndsClosedBy f c steps
HasFlaw f c steps (BadStep k) =
    IsFirstWithout (StandsAt f (sides_of f c.kind c.sides) steps) (length steps) (Some k)
HasFlaw f c steps OpenLiteral = AllStand f c steps × (EndsClosedBy f c steps → ⊥)

-- a flaw's step is one of so many
abbrev pub IsFlawWithin : ℕ → Flaw → Type 0
IsFlawWithin count (BadStep k) = k < count
IsFlawWithin count _ = Unit {0}

-- what is told of a flaw of the refutation at an index, which has so many steps
abbrev pub flaw_told : ℕ → ℕ → Flaw → Option Verdict
flaw_told index count NoFlaw = None
flaw_told index count (BadStep k) = Some (Rejected IsBadStep (index + 1) (k + 1))
flaw_told index count OpenLiteral = Some (Rejected IsOpen (index + 1) count)

-- the claim, and the steps of the refutation, at an index
abbrev pub no_claim : Claim
no_claim = record { fixed = []; inside = []; outside = []; ranged = []; kind = Outside; sides = [] }

abbrev pub FlawAt : Framework → List Claim → List Refutation → ℕ → Flaw → Type 0
FlawAt f claims refutations k flaw =
    HasFlaw f (slice_index_or claims k no_claim) (slice_index_or refutations k no_refutation).steps flaw

-- the first refutation with a flaw, and what is told of it
pub record FirstFlaw (f : Framework) (claims : List Claim) (refutations : List Refutation)
    (verdict : Verdict) : Type 0 where
  pub index : ℕ
  pub flaw : Flaw
  pub within : index < length refutations
  pub before : (k : ℕ) → k < index → FlawAt f claims refutations k NoFlaw
  pub has : FlawAt f claims refutations index flaw
  pub told : flaw_told index (length (slice_index_or refutations index no_refutation).steps) flaw ≡ Some verdict

-- no refutation has a flaw, or it is told of the first that has one
abbrev pub FindsFlaws : Framework → List Claim → List Refutation → Verdict → Type 0
FindsFlaws f claims refutations verdict =
    ((verdict ≡ Accepted) × ((k : ℕ) → k < length refutations → FlawAt f claims refutations k NoFlaw))
    ⊎ FirstFlaw f claims refutations verdict
