-- There is one verdict, and it is Accepted exactly where the certificate is accepted.
use Rattle.std.proofs.Common.{◌≡◌, ◌++◌, ⊎_elim, ℕ, List, [], ◌∷◌, length, map, flat_map, sym, arith, ◌∙◌}
use Rattle.iccma_tasks.specs.semantics.specs.Frameworks.{Framework}
use Rattle.iccma_tasks.specs.Tasks.{Asked}
use Rattle.certificate_claims.specs.declared.certificate.Certificate.{Certificate}
use Rattle.certificate_claims.specs.declared.row.Row.{Row}
use Rattle.certificate_claims.specs.declared.verdict.Verdict.{Verdict}
use Rattle.certificate_claims.specs.declared.verdict.Verdict.TheVariants.{Accepted}
use Rattle.certificate_claims.specs.Acceptance.{Passes}
use Rattle.certificate_claims.specs.Claims.{row_of, sets_of}
use Rattle.certificate_claims.specs.Verdicts.{Look, at_shape, at_witness, at_order, at_set_count, at_set, at_refutation_count, at_step, at_last, PassesLook, Finds, told, looks, refutation_looks, steps_at, indices}
use Rattle.certificate_claims.proofs.Found.{AllPass, pass_nil, pass_cons, pass_append, pass_first, pass_rest, pass_left, pass_right, pass_map_from, pass_parts, map_passes_from, flat_passes_from, accepted_found, found_accepted}
use Rattle.certificate_claims.specs.Laws.{OneVerdict, AcceptedIsVerdict}

one_found : (passes : Look → Type 0) (tells : Look → Verdict) (list : List Look) (a b : Verdict)
    → Finds passes tells list a → Finds passes tells list b → a ≡ b
one_found passes tells [] a b left right = left ∙ sym right
one_found passes tells (look ∷ more) a b left right =
    ⊎_elim
    (λ l. ⊎_elim (λ r. one_found passes tells more a b l.1 r.1) (λ r. absurd (r.0 l.0)) right)
    (λ l. ⊎_elim (λ r. absurd (l.0 r.0)) (λ r. l.1 ∙ sym r.1) right)
    left

pub one_verdict : OneVerdict
one_verdict f asked answer certificate a b left right =
    one_found (PassesLook f asked (row_of f asked answer) (sets_of answer) certificate) (told certificate)
    (looks (sets_of answer) certificate) a b left right

-- Accepted is told of no look
never_told : (certificate : Certificate) (look : Look) → told certificate look ≡ Accepted → ⊥
never_told certificate at_shape e = absurd (cc)
never_told certificate (at_witness k) e = absurd (cc)
never_told certificate at_order e = absurd (cc)
never_told certificate at_set_count e = absurd (cc)
never_told certificate (at_set k) e = absurd (cc)
never_told certificate at_refutation_count e = absurd (cc)
never_told certificate (at_step r k) e = absurd (cc)
never_told certificate (at_last r) e = absurd (cc)

-- the sections of the list of looks
abbrev witness_looks : List (List ℕ) → List Look
witness_looks shown = map at_witness (indices (length shown))

abbrev set_looks : Certificate → List Look
set_looks certificate = map at_set (indices (length certificate.sets))

abbrev all_refutations : Certificate → List Look
all_refutations certificate = flat_map (refutation_looks certificate) (indices (length certificate.refutations))

abbrev behind_sets : Certificate → List Look
behind_sets certificate = at_refutation_count ∷ all_refutations certificate

abbrev behind_witnesses : Certificate → List Look
behind_witnesses certificate = at_order ∷ at_set_count ∷ (set_looks certificate ++ behind_sets certificate)

-- where all looks pass, the certificate is accepted
passes_all : (f : Framework) (asked : Asked) (row : Row) (shown : List (List ℕ)) (certificate : Certificate)
    → AllPass (PassesLook f asked row shown certificate) (looks shown certificate)
    → Passes f asked row shown certificate
passes_all f asked row shown certificate all =
    let P = PassesLook f asked row shown certificate in
    let steps = λ (r : ℕ). map (at_step r) (indices (length (steps_at certificate r))) in
    let a = pass_rest P at_shape (witness_looks shown ++ behind_witnesses certificate) all in
    let b = pass_right P (witness_looks shown) (behind_witnesses certificate) a in
    let order = pass_first P at_order (at_set_count ∷ (set_looks certificate ++ behind_sets certificate)) b in
    let d = pass_rest P at_order (at_set_count ∷ (set_looks certificate ++ behind_sets certificate)) b in
    let e = pass_rest P at_set_count (set_looks certificate ++ behind_sets certificate) d in
    let g = pass_right P (set_looks certificate) (behind_sets certificate) e in
    let h = pass_rest P at_refutation_count (all_refutations certificate) g in
    record {
      tests = record {
        shape = pass_first P at_shape (witness_looks shown ++ behind_witnesses certificate) all;
        witnesses = λ k lt. map_passes_from P at_witness (length shown) 0
            (pass_left P (witness_looks shown) (behind_witnesses certificate) a) k (omega arith) (omega (arith, lt));
        order = order.0;
        grounded = order.1;
        count = pass_first P at_set_count (set_looks certificate ++ behind_sets certificate) d;
        each_set = λ k lt. map_passes_from P at_set (length certificate.sets) 0
            (pass_left P (set_looks certificate) (behind_sets certificate) e) k (omega arith) (omega (arith, lt));
      };
      number = pass_first P at_refutation_count (all_refutations certificate) g;
      refutations = λ r lt.
          let part = flat_passes_from P (refutation_looks certificate) (length certificate.refutations) 0 h r
          (omega arith) (omega (arith, lt)) in
          let last = pass_first P (at_last r) [] (pass_right P (steps r) (at_last r ∷ []) part) in
          record {
            some_step = last.some_step;
            each = λ k less. map_passes_from P (at_step r) (length (steps_at certificate r)) 0
                (pass_left P (steps r) (at_last r ∷ []) part) k (omega arith) (omega (arith, less));
            closed = last.closed;
          };
    }

-- and back
all_pass : (f : Framework) (asked : Asked) (row : Row) (shown : List (List ℕ)) (certificate : Certificate)
    → Passes f asked row shown certificate
    → AllPass (PassesLook f asked row shown certificate) (looks shown certificate)
all_pass f asked row shown certificate ok =
    let P = PassesLook f asked row shown certificate in
    let steps = λ (r : ℕ). map (at_step r) (indices (length (steps_at certificate r))) in
    pass_cons P at_shape (witness_looks shown ++ behind_witnesses certificate) ok.tests.shape
    (pass_append P (witness_looks shown) (behind_witnesses certificate)
    (pass_map_from P at_witness (length shown) 0 (λ k low less. ok.tests.witnesses k (omega (arith, less))))
    (pass_cons P at_order (at_set_count ∷ (set_looks certificate ++ behind_sets certificate))
    (ok.tests.order, ok.tests.grounded)
    (pass_cons P at_set_count (set_looks certificate ++ behind_sets certificate) ok.tests.count
    (pass_append P (set_looks certificate) (behind_sets certificate)
    (pass_map_from P at_set (length certificate.sets) 0 (λ k low less. ok.tests.each_set k (omega (arith, less))))
    (pass_cons P at_refutation_count (all_refutations certificate) ok.number
    (pass_parts P (refutation_looks certificate) (length certificate.refutations)
    (λ r less. let stands = ok.refutations r less in
    pass_append P (steps r) (at_last r ∷ [])
    (pass_map_from P (at_step r) (length (steps_at certificate r)) 0
    (λ k low high. stands.each k (omega (arith, high))))
    (pass_cons P (at_last r) [] (record { some_step = stands.some_step; closed = stands.closed })
    (pass_nil P)))))))))

pub accepted_is_verdict : AcceptedIsVerdict
accepted_is_verdict f asked answer certificate =
    let row = row_of f asked answer in
    let shown = sets_of answer in
    let P = PassesLook f asked row shown certificate in (
      λ found. passes_all f asked row shown certificate
          (found_accepted P (told certificate) (looks shown certificate) (never_told certificate) found),
      λ ok. accepted_found P (told certificate) (looks shown certificate)
          (all_pass f asked row shown certificate ok),
    )
