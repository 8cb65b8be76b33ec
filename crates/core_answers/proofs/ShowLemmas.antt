-- What the check of a certificate without refutations tells of the direct tests, and what is shown of each of some sets.
use Rattle.std.proofs.Common.{◌≡◌, ◌∙◌, ℕ, true, false, List, [], ◌∷◌, ◌++◌, length, get_or, map, arith, ap, sym}
use Rattle.std.proofs.Common.{subst, refl, ⊎_elim}
use Rattle.std.specs.Prelude.{Contains}
use Rattle.std.proofs.lemmas.Bool.{false≢true}
use Rattle.std.proofs.lemmas.List.{get_or_default}
use Rattle.std.proofs.lemmas.List.Elements.{Contains-get_or}
use Rattle.lists.proofs.Membership.{Contains-cons_cases, Contains-head, Contains-nil, Contains-tail}
use Rattle.semantics.specs.Frameworks.{Framework}
use Rattle.iccma_tasks.specs.declared.answer.Answer.{Answer}
use Rattle.iccma_tasks.specs.declared.answer.Answer.TheVariants.{Sets}
use Rattle.iccma_tasks.specs.declared.task.Semantics.{Semantics}
use Rattle.iccma_tasks.specs.Tasks.{Asked}
use Rattle.certificate_claims.specs.declared.certificate.Certificate.{Certificate}
use Rattle.certificate_claims.specs.declared.verdict.Verdict.{Verdict}
use Rattle.certificate_claims.specs.Acceptance.{Tests}
use Rattle.certificate_claims.specs.Claims.{row_of, sets_of}
use Rattle.certificate_claims.specs.Verdicts.{Finds, IsVerdict, Look, PassesLook, at_order, at_refutation_count, at_set, at_set_count, at_shape, at_witness, indices, told}
use Rattle.certificate_claims.proofs.Found.{AllPass, map_passes_from, pass_cons, pass_first, pass_map_from, pass_nil, pass_rest}
use Rattle.oracle_face.specs.Logs.{OracleLog}
use Rattle.session_log.specs.Ends.{IsShownBy, some_asked}
use Rattle.core_answers.specs.Showing.{ShowAlone, is_past_tests}
use Rattle.lists.proofs.Images.{image_from}

-- ---- what is found behind a section

-- a verdict that is told of no look of a section: all pass, and it is found behind them
found_behind : (passes : Look → Type 0) (tells : Look → Verdict) (section more : List Look) (verdict : Verdict)
    → ((look : Look) → Contains section look → is_past_tests (tells look) ≡ false) → is_past_tests verdict ≡ true
    → Finds passes tells (section ++ more) verdict → AllPass passes section × Finds passes tells more verdict
found_behind passes tells [] more verdict never past found = (pass_nil passes, found)
found_behind passes tells (look ∷ section) more verdict never past found =
    ⊎_elim
    (λ h. let rest = found_behind passes tells section more verdict
    (λ l c. never l (Contains-tail look section l c)) past h.1 in
    (pass_cons passes look section h.0 rest.0, rest.1))
    (λ h. absurd (false≢true (sym (never look (Contains-head look section look refl))
    ∙ (sym (ap is_past_tests h.1) ∙ past))))
    found

-- where a section passes, what is found is found behind it
behind_found : (passes : Look → Type 0) (tells : Look → Verdict) (section more : List Look) (verdict : Verdict)
    → AllPass passes section → Finds passes tells (section ++ more) verdict → Finds passes tells more verdict
behind_found passes tells [] more verdict all found = found
behind_found passes tells (look ∷ section) more verdict all found =
    ⊎_elim (λ h. behind_found passes tells section more verdict (pass_rest passes look section all) h.1)
    (λ h. absurd (h.0 (pass_first passes look section all))) found

-- ---- a certificate without refutations

abbrev pub bare : List (List ℕ) → Certificate
bare sets = record { sets = sets; refutations = [] }

never_mapped : (certificate : Certificate) (part : ℕ → Look) (n : ℕ)
    → ((k : ℕ) → is_past_tests (told certificate (part k)) ≡ false)
    → (look : Look) → Contains (map part (indices n)) look → is_past_tests (told certificate look) ≡ false
never_mapped certificate part n never look c =
    let at = image_from part (indices n) look c in
    subst (λ l. is_past_tests (told certificate l) ≡ false) at.2 (never at.0)

never_one : (certificate : Certificate) (only : Look) → is_past_tests (told certificate only) ≡ false
    → (look : Look) → Contains (only ∷ []) look → is_past_tests (told certificate look) ≡ false
never_one certificate only never look c =
    ⊎_elim (λ (e : only ≡ look). subst (λ l. is_past_tests (told certificate l) ≡ false) e never)
    (λ n. absurd (Contains-nil look n)) (Contains-cons_cases only [] look c)

-- what is looked at behind the sets, behind their count, behind their order, and behind the witnesses
abbrev counted : List Look
counted = at_refutation_count ∷ []

abbrev behind_count : List (List ℕ) → List Look
behind_count sets = map at_set (indices (length sets)) ++ counted

abbrev behind_order : List (List ℕ) → List Look
behind_order sets = at_set_count ∷ behind_count sets

abbrev behind_shown : List (List ℕ) → List Look
behind_shown sets = at_order ∷ behind_order sets

pub tests_from : (f : Framework) (asked : Asked) (answer : Answer) (sets : List (List ℕ)) (verdict : Verdict)
    → IsVerdict f asked answer (bare sets) verdict → is_past_tests verdict ≡ true
    → Tests f asked (row_of f asked answer) (sets_of answer) sets
tests_from f asked answer sets verdict is past =
    let cert = bare sets in
    let shown = sets_of answer in
    let P = PassesLook f asked (row_of f asked answer) shown cert in
    let T = told cert in
    let a = found_behind P T (at_shape ∷ []) (map at_witness (indices (length shown)) ++ behind_shown sets) verdict
    (never_one cert at_shape refl) past is in
    let b = found_behind P T (map at_witness (indices (length shown))) (behind_shown sets) verdict
    (never_mapped cert at_witness (length shown) (λ k. refl)) past a.1 in
    let c = found_behind P T (at_order ∷ []) (behind_order sets) verdict (never_one cert at_order refl) past b.1 in
    let d = found_behind P T (at_set_count ∷ []) (behind_count sets) verdict (never_one cert at_set_count refl) past c.1 in
    let e = found_behind P T (map at_set (indices (length sets))) counted verdict
    (never_mapped cert at_set (length sets) (λ k. refl)) past d.1 in
    let order = pass_first P at_order [] c.0 in
    record {
      shape = pass_first P at_shape [] a.0;
      witnesses = λ k lt. map_passes_from P at_witness (length shown) 0 b.0 k (omega arith) (omega (arith, lt));
      order = order.0;
      grounded = order.1;
      count = pass_first P at_set_count [] d.0;
      each_set = λ k lt. map_passes_from P at_set (length sets) 0 e.0 k (omega arith) (omega (arith, lt));
    }

pub past_from : (f : Framework) (asked : Asked) (answer : Answer) (sets : List (List ℕ)) (verdict : Verdict)
    → IsVerdict f asked answer (bare sets) verdict → Tests f asked (row_of f asked answer) (sets_of answer) sets
    → is_past_tests verdict ≡ true
past_from f asked answer sets verdict is tests =
    let cert = bare sets in
    let shown = sets_of answer in
    let P = PassesLook f asked (row_of f asked answer) shown cert in
    let T = told cert in
    let one = λ (look : Look) (h : P look). pass_cons P look [] h (pass_nil P) in
    let a = behind_found P T (at_shape ∷ []) (map at_witness (indices (length shown)) ++ behind_shown sets) verdict
    (one at_shape tests.shape) is in
    let b = behind_found P T (map at_witness (indices (length shown))) (behind_shown sets) verdict
    (pass_map_from P at_witness (length shown) 0 (λ k low less. tests.witnesses k (omega (arith, less)))) a in
    let c = behind_found P T (at_order ∷ []) (behind_order sets) verdict (one at_order (tests.order, tests.grounded)) b in
    let d = behind_found P T (at_set_count ∷ []) (behind_count sets) verdict (one at_set_count tests.count) c in
    let e = behind_found P T (map at_set (indices (length sets))) counted verdict
    (pass_map_from P at_set (length sets) 0 (λ k low less. tests.each_set k (omega (arith, less)))) d in
    ⊎_elim (λ h. ap is_past_tests h.1) (λ h. ap is_past_tests h.1) e

-- a verdict on a certificate with these sets and without refutations
pub on_bare : (f : Framework) (asked : Asked) (answer : Answer) (certificate : Certificate) (sets : List (List ℕ))
    (verdict : Verdict) → certificate.sets ≡ sets → certificate.refutations ≡ []
    → IsVerdict f asked answer certificate verdict → IsVerdict f asked answer (bare sets) verdict
on_bare f asked answer certificate sets verdict same none is =
    let path : certificate ≡ bare sets = λ i. record { sets = same i; refutations = none i } in
    subst (λ (c : Certificate). IsVerdict f asked answer c verdict) path is

-- ---- each set shown

module _ (f : Framework) (semantics : Semantics) (log : OracleLog) (sets : List (List ℕ)) where
  pub shown_members : ShowAlone f semantics log sets → (e : List ℕ) → Contains sets e
      → IsShownBy f (some_asked semantics) (Sets (e ∷ [])) [] log
  shown_members all e there =
      subst (λ (x : List ℕ). IsShownBy f (some_asked semantics) (Sets (x ∷ [])) [] log)
      (get_or_default sets there.0 [] e there.1 ∙ there.2) (all there.0 there.1)

  pub shown_alone : ((e : List ℕ) → Contains sets e → IsShownBy f (some_asked semantics) (Sets (e ∷ [])) [] log)
      → ShowAlone f semantics log sets
  shown_alone all k lt = all (get_or sets k []) (Contains-get_or sets k [] lt)
