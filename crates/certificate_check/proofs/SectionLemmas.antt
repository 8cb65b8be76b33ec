-- What is found from each section on.
use Rattle.std.proofs.Common.{◌≡◌, ℕ, ◌+◌, ◌-◌, ◌<◌, List, [], ◌∷◌, length, get_or, map, refl, ap, sym, subst, ◌∙◌, arith, inl, inr, ⊎_elim}
use Rattle.std.specs.Prelude.{Contains, Option, Some, None}
use Rattle.std.proofs.lemmas.Option.{none-some}
use Rattle.std.proofs.lemmas.List.{length-map}
use Rattle.semantics.specs.Frameworks.{Framework}
use Rattle.meaning_atoms.specs.declared.atom.AtomLit.{AtomLit}
use Rattle.iccma_tasks.specs.Tasks.{Asked}
use Rattle.certificate_claims.specs.declared.certificate.Certificate.{Certificate}
use Rattle.certificate_claims.specs.declared.certificate.Step.{Step}
use Rattle.certificate_claims.specs.declared.row.Row.{Row}
use Rattle.certificate_claims.specs.declared.verdict.Verdict.{Verdict}
use Rattle.certificate_claims.specs.declared.verdict.Verdict.TheVariants.{Accepted, Rejected}
use Rattle.certificate_claims.specs.declared.verdict.Cause.{Cause}
use Rattle.certificate_claims.specs.declared.verdict.Cause.TheVariants.{BadWitness, BadSet, RefutationCount}
use Rattle.certificate_claims.specs.declared.certificate.Refutation.{Refutation}
use Rattle.iccma_tasks.specs.declared.answer.Answer.{Answer}
use Rattle.certificate_claims.specs.Acceptance.{no_claim as no_table_claim, PassesSet, PassesTest}
use Rattle.certificate_claims.specs.Claims.{claims, row_of, sets_of}
use Rattle.certificate_claims.specs.Refutations.{Claim as TableClaim, IsClosed, step_clause, no_step}
use Rattle.certificate_claims.proofs.Found.{AllPass, pass_append, pass_map_from, pass_cons, pass_nil, pass_parts, found_numbered, then_numbered, found_in_part, accepted_found}
use Rattle.certificate_claims.specs.Verdicts.{Look, PassesLook, EndsClosed, told, indices, refutation_looks, steps_at, claim_at, at_step, at_last, at_set, at_witness, looks, IsVerdict}
use Rattle.answer_claims.specs.declared.claim.Claim.{Claim}
use Rattle.certificate_check.specs.declared.refuting.Flaw.{Flaw}
use Rattle.certificate_check.specs.declared.refuting.Flaw.TheVariants.{None as NoFlaw, BadStep, OpenLiteral}
use Rattle.answer_claims.specs.ClaimParts.{IsClaimOf, AreClaims}
use Rattle.certificate_check.specs.Flaws.{HasFlaw, EndsClosedBy, flaw_told, no_claim, FlawAt, FirstFlaw, FindsFlaws}
use Rattle.certificate_check.specs.Sections.{FindsFrom, refutation_section, after_sets, after_set_count, after_witnesses, after_shape}
use Rattle.answer_claims.specs.SideClauses.{side_of, sides_of}
use Rattle.certificate_check.specs.Standing.{IsClosedBy, StandsAt, IsFirstWithout}
use Rattle.answer_claims.proofs.ClaimLemmas.{same_length, claim_at_index}

-- ---- refutations

closed_there : (f : Framework) (c : Claim) (t : TableClaim) (l : AtomLit) → IsClaimOf f c t → IsClosedBy f c l
    → IsClosed f t l
closed_there f c t l is h =
    let long : length t.sides ≡ length c.sides = ap length is.sides ∙ length-map c.sides (side_of f c.kind) in
    ⊎_elim (λ fact. inl fact) (λ more. inr (⊎_elim (λ g. inl ((is.goals _).0 g))
    (λ ask. inr (rw long ask)) more)) h.way

closed_back : (f : Framework) (c : Claim) (t : TableClaim) (l : AtomLit) → IsClaimOf f c t → IsClosed f t l
    → IsClosedBy f c l
closed_back f c t l is h =
    let long : length t.sides ≡ length c.sides = ap length is.sides ∙ length-map c.sides (side_of f c.kind) in record {
      way = ⊎_elim (λ fact. inl fact) (λ more. inr (⊎_elim (λ g. inl ((is.goals _).1 g))
          (λ ask. inr (rw (← long) ask)) more)) h;
    }

ends_there : (f : Framework) (c : Claim) (t : TableClaim) (steps : List Step) → IsClaimOf f c t → EndsClosedBy f c steps
    → EndsClosed f t steps
ends_there f c t steps is h = record {
  some_step = h.some_step;
  closed = λ l at. closed_there f c t l is (h.closed.each l (subst (λ sides. Contains (step_clause sides
      (get_or steps (length steps - 1) no_step)) l) is.sides at));
}

ends_back : (f : Framework) (c : Claim) (t : TableClaim) (steps : List Step) → IsClaimOf f c t → EndsClosed f t steps
    → EndsClosedBy f c steps
ends_back f c t steps is h = record {
  some_step = h.some_step;
  closed = record {
    each = λ l at. closed_back f c t l is (h.closed l (subst (λ sides. Contains (step_clause sides
        (get_or steps (length steps - 1) no_step)) l) (sym is.sides) at));
  };
}

stands_there : (f : Framework) (c : Claim) (t : TableClaim) (steps : List Step) (k : ℕ) → IsClaimOf f c t
    → StandsAt f (sides_of f c.kind c.sides) steps k → StandsAt f t.sides steps k
stands_there f c t steps k is h = subst (λ sides. StandsAt f sides steps k) (sym is.sides) h

stands_back : (f : Framework) (c : Claim) (t : TableClaim) (steps : List Step) (k : ℕ) → IsClaimOf f c t
    → StandsAt f t.sides steps k → StandsAt f (sides_of f c.kind c.sides) steps k
stands_back f c t steps k is h = subst (λ sides. StandsAt f sides steps k) is.sides h

-- ---- what is found of refutations

-- what passes at the looks of a refutation
abbrev Pass : Framework → Asked → Row → List (List ℕ) → Certificate → Look → Type 0
Pass f asked row shown cert = PassesLook f asked row shown cert

claim_here : (f : Framework) (row : Row) (cert : Certificate) (cs : List Claim) (r : ℕ)
    → AreClaims f cs (claims f row cert.sets) → length cert.refutations ≡ length cs → r < length cert.refutations
    → IsClaimOf f (get_or cs r no_claim) (claim_at f row cert r)
claim_here f row cert cs r all long lt =
    claim_at_index f cs (claims f row cert.sets) r no_claim no_table_claim all (omega (arith, long))

part_passes : (f : Framework) (asked : Asked) (row : Row) (shown : List (List ℕ)) (cert : Certificate) (c : Claim)
    (r : ℕ)
    → IsClaimOf f c (claim_at f row cert r) → HasFlaw f c (steps_at cert r) NoFlaw
    → AllPass (Pass f asked row shown cert) (refutation_looks cert r)
part_passes f asked row shown cert c r is h =
    pass_append (Pass f asked row shown cert) (map (at_step r) (indices (length (steps_at cert r)))) (at_last r ∷ [])
    (pass_map_from (Pass f asked row shown cert) (at_step r) (length (steps_at cert r)) 0
    (λ k low high. stands_there f c (claim_at f row cert r) (steps_at cert r) k is (h.0 k (omega arith))))
    (pass_cons (Pass f asked row shown cert) (at_last r) []
    (ends_there f c (claim_at f row cert r) (steps_at cert r) is h.1) (pass_nil (Pass f asked row shown cert)))

some_same : {X : Type 0} (a b : X) → Some a ≡ Some b → a ≡ b
some_same a b e = cc

some_is_none : {X : Type 0} (a : X) → None ≡ Some a → ⊥
some_is_none a e = none-some a e

part_found : (f : Framework) (asked : Asked) (row : Row) (shown : List (List ℕ)) (cert : Certificate) (c : Claim)
    (r : ℕ)
    (flaw : Flaw) (verdict : Verdict)
    → IsClaimOf f c (claim_at f row cert r) → HasFlaw f c (steps_at cert r) flaw
    → flaw_told r (length (steps_at cert r)) flaw ≡ Some verdict
    → FindsFrom f asked row shown cert (refutation_looks cert r) verdict
part_found f asked row shown cert c r NoFlaw verdict is h e = absurd (some_is_none verdict e)
part_found f asked row shown cert c r (BadStep k) verdict is h e =
    subst (λ v. FindsFrom f asked row shown cert (refutation_looks cert r) v) (some_same (told cert
    (at_step r k)) verdict e)
    (found_numbered (Pass f asked row shown cert) (told cert) (at_step r) (at_last r ∷ []) (length
    (steps_at cert r)) k h.0
    (λ j lt. stands_there f c (claim_at f row cert r) (steps_at cert r) j is (h.1.0 j lt))
    (λ stands. h.1.1 (stands_back f c (claim_at f row cert r) (steps_at cert r) k is stands)))
part_found f asked row shown cert c r OpenLiteral verdict is h e =
    subst (λ v. FindsFrom f asked row shown cert (refutation_looks cert r) v) (some_same (told cert
    (at_last r)) verdict e)
    (then_numbered (Pass f asked row shown cert) (told cert) (at_step r) (at_last r ∷ []) (length (steps_at cert r))
    (told cert (at_last r)) (λ j lt. stands_there f c (claim_at f row cert r) (steps_at cert r) j is (h.0 j lt))
    (inr ((λ ends. h.1 (ends_back f c (claim_at f row cert r) (steps_at cert r) is ends)), refl)))

never_both : (cause : Cause) (r k : ℕ) (verdict : Verdict) → Rejected cause r k ≡ verdict → verdict ≡ Accepted → ⊥
never_both cause r k verdict e a = cc

rejected : (index count : ℕ) (flaw : Flaw) (verdict : Verdict) → flaw_told index count flaw ≡ Some verdict
    → verdict ≡ Accepted → ⊥
rejected index count NoFlaw verdict e a = some_is_none verdict e
rejected index count (BadStep k) verdict e a = never_both _ _ _ _ (some_same _ verdict e) a
rejected index count OpenLiteral verdict e a = never_both _ _ _ _ (some_same _ verdict e) a

pub refutations_found : (f : Framework) (asked : Asked) (row : Row) (shown : List (List ℕ)) (cert : Certificate)
    (cs : List Claim) (verdict : Verdict)
    → AreClaims f cs (claims f row cert.sets) → length cert.refutations ≡ length cs
    → FindsFlaws f cs cert.refutations verdict
    → FindsFrom f asked row shown cert (refutation_section cert) verdict
refutations_found f asked row shown cert cs verdict all long found = ⊎_elim
    (λ (h : (verdict ≡ Accepted) × ((k : ℕ) → k < length cert.refutations → FlawAt f cs cert.refutations k NoFlaw)).
    subst (λ v. FindsFrom f asked row shown cert (refutation_section cert) v) (sym h.0)
    (accepted_found (Pass f asked row shown cert) (told cert) (refutation_section cert)
    (pass_parts (Pass f asked row shown cert) (refutation_looks cert) (length cert.refutations)
    (λ r lt. part_passes f asked row shown cert (get_or cs r no_claim) r (claim_here f row cert cs r all long lt)
    (h.1 r lt)))))
    (λ (first : FirstFlaw f cs cert.refutations verdict).
    found_in_part (Pass f asked row shown cert) (told cert) (refutation_looks cert) verdict (length cert.refutations)
    first.index first.within
    (λ r lt. let within : first.index < length cert.refutations = first.within in
    part_passes f asked row shown cert (get_or cs r no_claim) r
    (claim_here f row cert cs r all long (omega arith)) (first.before r lt))
    (part_found f asked row shown cert (get_or cs first.index no_claim) first.index first.flaw verdict
    (claim_here f row cert cs first.index all long first.within) first.has first.told)
    (rejected first.index (length (steps_at cert first.index)) first.flaw verdict first.told))
    found

-- there are as many claims as refutations
pub as_many : (f : Framework) (row : Row) (cert : Certificate) (cs : List Claim)
    → AreClaims f cs (claims f row cert.sets) → length cs ≡ length (claims f row cert.sets)
as_many f row cert cs all = same_length f cs (claims f row cert.sets) all

-- ---- sections

pub count_failed : (f : Framework) (asked : Asked) (row : Row) (shown : List (List ℕ)) (cert : Certificate)
    (cs : List Claim)
    (refs : List Refutation) (sets : List (List ℕ)) → sets ≡ cert.sets → AreClaims f cs (claims f row sets)
    → refs ≡ cert.refutations → (length refs ≡ length cs → ⊥)
    → FindsFrom f asked row shown cert (after_sets cert) (Rejected RefutationCount 0 0)
count_failed f asked row shown cert cs refs sets same all e differ = inr (
  (λ long. differ (ap length e ∙ (long
      ∙ sym (same_length f cs (claims f row cert.sets) (subst (λ x. AreClaims f cs (claims f row x)) same all))))),
  refl,
)

pub count_passed : (f : Framework) (asked : Asked) (row : Row) (shown : List (List ℕ)) (cert : Certificate)
    (cs given : List Claim) (refs : List Refutation) (sets : List (List ℕ)) (verdict : Verdict) → sets ≡ cert.sets
    → AreClaims f cs (claims f row sets) → refs ≡ cert.refutations → given ≡ cs → length refs ≡ length cs
    → FindsFlaws f given refs verdict → FindsFrom f asked row shown cert (after_sets cert) verdict
count_passed f asked row shown cert cs given refs sets verdict same all e is long found =
    let here : AreClaims f cs (claims f row cert.sets) = subst (λ x. AreClaims f cs (claims f row x)) same all in
    let count : length cert.refutations ≡ length cs = ap length (sym e) ∙ long in inl (
      count ∙ same_length f cs (claims f row cert.sets) here,
      refutations_found f asked row shown cert cs verdict here count
          (subst (λ x. FindsFlaws f cs x verdict) e (subst (λ x. FindsFlaws f x refs verdict) is found)),
    )

pub set_failed : (f : Framework) (asked : Asked) (row : Row) (shown : List (List ℕ)) (cert : Certificate)
    (given : List (List ℕ)) (bad : Option ℕ) (k : ℕ) → given ≡ cert.sets → bad ≡ Some k
    → IsFirstWithout (λ j. PassesSet f asked row j (get_or given j [])) (length given) bad
    → FindsFrom f asked row shown cert (after_set_count cert) (Rejected BadSet 0 (k + 1))
set_failed f asked row shown cert given bad k e is first =
    let here : IsFirstWithout (λ j. PassesSet f asked row j (get_or cert.sets j [])) (length cert.sets) (Some k) =
    subst (λ x. IsFirstWithout (λ j. PassesSet f asked row j (get_or x j [])) (length x) (Some k)) e
    (subst (λ b. IsFirstWithout (λ j. PassesSet f asked row j (get_or given j [])) (length given) b) is first) in
    found_numbered (Pass f asked row shown cert) (told cert) at_set (after_sets cert)
    (length cert.sets) k here.0 here.1.0
    here.1.1

pub sets_passed : (f : Framework) (asked : Asked) (row : Row) (shown : List (List ℕ)) (cert : Certificate)
    (given : List (List ℕ)) (bad : Option ℕ) (verdict : Verdict) → given ≡ cert.sets → bad ≡ None
    → IsFirstWithout (λ j. PassesSet f asked row j (get_or given j [])) (length given) bad
    → FindsFrom f asked row shown cert (after_sets cert) verdict
    → FindsFrom f asked row shown cert (after_set_count cert) verdict
sets_passed f asked row shown cert given bad verdict e is all found =
    let here : IsFirstWithout (λ j. PassesSet f asked row j (get_or cert.sets j [])) (length cert.sets) None =
    subst (λ x. IsFirstWithout (λ j. PassesSet f asked row j (get_or x j [])) (length x) None) e
    (subst (λ b. IsFirstWithout (λ j. PassesSet f asked row j (get_or given j [])) (length given) b) is all) in
    then_numbered (Pass f asked row shown cert) (told cert) at_set (after_sets cert)
    (length cert.sets) verdict here found

pub witness_failed : (f : Framework) (asked : Asked) (row : Row) (shown : List (List ℕ)) (cert : Certificate)
    (bad : Option ℕ) (k : ℕ) → bad ≡ Some k
    → IsFirstWithout (λ j. PassesTest f asked row (get_or shown j [])) (length shown) bad
    → FindsFrom f asked row shown cert (after_shape shown cert) (Rejected BadWitness 0 (k + 1))
witness_failed f asked row shown cert bad k e first =
    let here : IsFirstWithout (λ j. PassesTest f asked row (get_or shown j [])) (length shown) (Some k) =
    subst (λ x. IsFirstWithout (λ j. PassesTest f asked row (get_or shown j [])) (length shown) x) e first in
    found_numbered (Pass f asked row shown cert) (told cert) at_witness (after_witnesses cert) (length shown) k here.0
    here.1.0 here.1.1

pub witnesses_passed : (f : Framework) (asked : Asked) (row : Row) (shown : List (List ℕ)) (cert : Certificate)
    (bad : Option ℕ) (verdict : Verdict) → bad ≡ None
    → IsFirstWithout (λ j. PassesTest f asked row (get_or shown j [])) (length shown) bad
    → FindsFrom f asked row shown cert (after_witnesses cert) verdict
    → FindsFrom f asked row shown cert (after_shape shown cert) verdict
witnesses_passed f asked row shown cert bad verdict e all found =
    let here : IsFirstWithout (λ j. PassesTest f asked row (get_or shown j [])) (length shown) None =
    subst (λ x. IsFirstWithout (λ j. PassesTest f asked row (get_or shown j [])) (length shown) x) e all in
    then_numbered (Pass f asked row shown cert) (told cert) at_witness (after_witnesses cert)
    (length shown) verdict here
    found

-- what is found of the answer's row and its sets is the verdict
pub verdict_from : (f : Framework) (asked : Asked) (answer : Answer) (cert : Certificate) (row : Row)
    (shown : List (List ℕ)) (verdict : Verdict) → row ≡ row_of f asked answer → shown ≡ sets_of answer
    → FindsFrom f asked row shown cert (looks shown cert) verdict → IsVerdict f asked answer cert verdict
verdict_from f asked answer cert row shown verdict e same found =
    subst (λ r. FindsFrom f asked r (sets_of answer) cert (looks (sets_of answer) cert) verdict) e
    (subst (λ s. FindsFrom f asked row s cert (looks s cert) verdict) same found)
