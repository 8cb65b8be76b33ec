-- The first flaw of refutations in turn.
use Rattle.std.proofs.Common.{◌≡◌, ℕ, ◌+◌, ◌<◌, List, length, get_or, refl, ap, sym, subst, ◌∙◌, arith, inr, ⊎_elim}
use Rattle.std.specs.Prelude.{Option, Some, None}
use Rattle.std.proofs.lemmas.Bool.{cases_eq}
use Rattle.std.proofs.lemmas.List.{get_or_default}
use Rattle.std.proofs.lemmas.Option.{none-some}
use Rattle.semantics.specs.Frameworks.{Framework}
use Rattle.certificate_claims.specs.declared.certificate.Refutation.{Refutation}
use Rattle.certificate_claims.specs.declared.certificate.Step.{Step}
use Rattle.certificate_claims.specs.declared.verdict.Verdict.{Verdict}
use Rattle.certificate_claims.specs.Acceptance.{no_refutation}
use Rattle.answer_claims.specs.declared.claim.Claim.{Claim}
use Rattle.certificate_check.specs.declared.refuting.Flaw.{Flaw}
use Rattle.certificate_check.specs.declared.refuting.Flaw.TheVariants.{None as NoFlaw, BadStep, OpenLiteral}
use Rattle.certificate_check.specs.Flaws.{HasFlaw, IsFlawWithin, flaw_told, no_claim, FlawAt, FindsFlaws}

pub flaw_within : (f : Framework) (c : Claim) (steps : List Step) (flaw : Flaw) → HasFlaw f c steps flaw
    → IsFlawWithin (length steps) flaw
flaw_within f c steps NoFlaw h = record {}
flaw_within f c steps (BadStep k) h = h.0
flaw_within f c steps OpenLiteral h = record {}

none_told : (index count : ℕ) (flaw : Flaw) → flaw_told index count flaw ≡ None → flaw ≡ NoFlaw
none_told index count NoFlaw e = refl
none_told index count (BadStep k) e = absurd (none-some _ (sym e))
none_told index count OpenLiteral e = absurd (none-some _ (sym e))

-- the claim and the refutation at an index, as they are read
pub record ReadsAt (claims : List Claim) (refutations : List Refutation) (i : ℕ) (c : Claim) (r : Refutation)
    (steps : List Step) : Type 0 where
  pub below : i < length refutations
  pub same_length : length refutations ≡ length claims
  pub claim_is : c ≡ get_or claims i c
  pub steps_are : steps ≡ (get_or refutations i r).steps

the_claim : (claims : List Claim) (refutations : List Refutation) (i : ℕ) (c : Claim) (r : Refutation)
    (steps : List Step)
    → ReadsAt claims refutations i c r steps → c ≡ get_or claims i no_claim
the_claim claims refutations i c r steps at =
    let lt : i < length refutations = at.below in
    at.claim_is ∙ get_or_default claims i c no_claim (omega (arith, at.same_length))

the_steps : (claims : List Claim) (refutations : List Refutation) (i : ℕ) (c : Claim) (r : Refutation)
    (steps : List Step)
    → ReadsAt claims refutations i c r steps → steps ≡ (get_or refutations i no_refutation).steps
the_steps claims refutations i c r steps at =
    at.steps_are ∙ ap (λ x. x.steps) (get_or_default refutations i r no_refutation at.below)

flaw_here : (f : Framework) (claims : List Claim) (refutations : List Refutation) (i : ℕ) (c : Claim) (r : Refutation)
    (steps : List Step) (flaw : Flaw) → ReadsAt claims refutations i c r steps → HasFlaw f c steps flaw
    → FlawAt f claims refutations i flaw
flaw_here f claims refutations i c r steps flaw at h =
    subst (λ x. HasFlaw f x (get_or refutations i no_refutation).steps flaw)
    (the_claim claims refutations i c r steps at)
    (subst (λ x. HasFlaw f c x flaw) (the_steps claims refutations i c r steps at) h)

pub none_next : (f : Framework) (claims : List Claim) (refutations : List Refutation) (i : ℕ) (c : Claim)
    (r : Refutation) (steps : List Step) (flaw : Flaw) (count : ℕ) (given : Option Verdict)
    → ReadsAt claims refutations i c r steps → HasFlaw f c steps flaw → given ≡ flaw_told i count flaw → given ≡ None
    → ((k : ℕ) → k < i → FlawAt f claims refutations k NoFlaw)
    → (k : ℕ) → k < i + 1 → FlawAt f claims refutations k NoFlaw
none_next f claims refutations i c r steps flaw count given at h e none before k lt =
    let here : FlawAt f claims refutations i NoFlaw =
    subst (λ x. FlawAt f claims refutations i x) (none_told i count flaw (sym e ∙ none))
    (flaw_here f claims refutations i c r steps flaw at h) in
    ⊎_elim (λ (same : k ≡ i). subst (λ j. FlawAt f claims refutations j NoFlaw) (sym same) here)
    (λ ne. before k (omega (arith, ne))) (cases_eq k i)

pub first_flaw : (f : Framework) (claims : List Claim) (refutations : List Refutation) (i : ℕ) (c : Claim)
    (r : Refutation) (steps : List Step) (flaw : Flaw) (given : Option Verdict) (verdict : Verdict)
    → ReadsAt claims refutations i c r steps → HasFlaw f c steps flaw → given ≡ flaw_told i (length steps) flaw
    → given ≡ Some verdict → ((k : ℕ) → k < i → FlawAt f claims refutations k NoFlaw)
    → FindsFlaws f claims refutations verdict
first_flaw f claims refutations i c r steps flaw given verdict at h e some_told before = inr (record {
  index = i;
  flaw = flaw;
  within = at.below;
  before = before;
  has = flaw_here f claims refutations i c r steps flaw at h;
  told = ap (λ (xs : List Step). flaw_told i (length xs) flaw) (sym (the_steps claims refutations i c r steps at))
      ∙ (sym e ∙ some_told);
})
