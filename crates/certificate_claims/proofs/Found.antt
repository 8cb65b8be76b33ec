-- What is found where a list of looks is gone through section by section.
use Rattle.std.proofs.Common.{◌≡◌, ◌+◌, ◌<◌, ◌≤◌, ℕ, zero, suc, List, [], ◌∷◌, ◌++◌, map, flat_map, arith, inl, inr, ⊎_elim, refl, sym, subst}
use Rattle.std.specs.Prelude.{Contains}
use Rattle.std.specs.List.{range_with_len}
use Rattle.std.proofs.lemmas.Bool.{cases_eq}
use Rattle.std.proofs.lemmas.List.Elements.{Contains-append_left, Contains-append_right, Contains-append_cases}
use Rattle.lists.proofs.Membership.{Contains-nil, Contains-head, Contains-tail, Contains-cons_cases}
use Rattle.certificate_claims.specs.declared.verdict.Verdict.{Verdict}
use Rattle.certificate_claims.specs.declared.verdict.Verdict.TheVariants.{Accepted}
use Rattle.certificate_claims.specs.Verdicts.{Look, Finds, indices}

-- ---- all looks of a section pass

abbrev pub AllPass : (Look → Type 0) → List Look → Type 0
AllPass passes section = (look : Look) → Contains section look → passes look

pub pass_nil : (passes : Look → Type 0) → AllPass passes []
pass_nil passes look c = absurd (Contains-nil look c)

pub pass_cons : (passes : Look → Type 0) (first : Look) (more : List Look) → passes first → AllPass passes more
    → AllPass passes (first ∷ more)
pass_cons passes first more h all look c =
    ⊎_elim (λ (e : first ≡ look). subst passes e h) (λ later. all look later) (Contains-cons_cases first more look c)

pub pass_append : (passes : Look → Type 0) (left right : List Look) → AllPass passes left → AllPass passes right
    → AllPass passes (left ++ right)
pass_append passes left right l r look c =
    ⊎_elim (λ k. l look k) (λ k. r look k) (Contains-append_cases left right look c)

pub pass_first : (passes : Look → Type 0) (first : Look) (more : List Look) → AllPass passes (first ∷ more)
    → passes first
pass_first passes first more all = all first (Contains-head first more first refl)

pub pass_rest : (passes : Look → Type 0) (first : Look) (more : List Look) → AllPass passes (first ∷ more)
    → AllPass passes more
pass_rest passes first more all look c = all look (Contains-tail first more look c)

pub pass_left : (passes : Look → Type 0) (left right : List Look) → AllPass passes (left ++ right)
    → AllPass passes left
pass_left passes left right all look c = all look (Contains-append_left left right look c)

pub pass_right : (passes : Look → Type 0) (left right : List Look) → AllPass passes (left ++ right)
    → AllPass passes right
pass_right passes left right all look c = all look (Contains-append_right left right look c)

-- a section over the n indices from `start` on
pub pass_flat_from : (passes : Look → Type 0) (part : ℕ → List Look) (n start : ℕ)
    → ((k : ℕ) → start ≤ k → k < start + n → AllPass passes (part k))
    → AllPass passes (flat_map part (range_with_len start n))
pass_flat_from passes part zero start all = pass_nil passes
pass_flat_from passes part (suc n) start all =
    pass_append passes (part start) (flat_map part (range_with_len (start + 1) n))
    (all start (omega arith) (omega arith))
    (pass_flat_from passes part n (start + 1) (λ k low high. all k (omega arith) (omega arith)))

pub pass_map_from : (passes : Look → Type 0) (part : ℕ → Look) (n start : ℕ)
    → ((k : ℕ) → start ≤ k → k < start + n → passes (part k))
    → AllPass passes (map part (range_with_len start n))
pass_map_from passes part zero start all = pass_nil passes
pass_map_from passes part (suc n) start all =
    pass_cons passes (part start) (map part (range_with_len (start + 1) n))
    (all start (omega arith) (omega arith))
    (pass_map_from passes part n (start + 1) (λ k low high. all k (omega arith) (omega arith)))

pub flat_passes_from : (passes : Look → Type 0) (part : ℕ → List Look) (n start : ℕ)
    → AllPass passes (flat_map part (range_with_len start n))
    → (k : ℕ) → start ≤ k → k < start + n → AllPass passes (part k)
flat_passes_from passes part zero start all k low high = absurd (omega arith)
flat_passes_from passes part (suc n) start all k low high =
    let more = flat_map part (range_with_len (start + 1) n) in
    ⊎_elim (λ (e : start ≡ k). subst (λ i. AllPass passes (part i)) e (pass_left passes (part start) more all))
    (λ differ. flat_passes_from passes part n (start + 1) (pass_right passes (part start) more all) k
    (omega (arith, differ)) (omega arith))
    (cases_eq start k)

pub map_passes_from : (passes : Look → Type 0) (part : ℕ → Look) (n start : ℕ)
    → AllPass passes (map part (range_with_len start n))
    → (k : ℕ) → start ≤ k → k < start + n → passes (part k)
map_passes_from passes part zero start all k low high = absurd (omega arith)
map_passes_from passes part (suc n) start all k low high =
    let more = map part (range_with_len (start + 1) n) in
    ⊎_elim (λ (e : start ≡ k). subst (λ i. passes (part i)) e (pass_first passes (part start) more all))
    (λ differ. map_passes_from passes part n (start + 1) (pass_rest passes (part start) more all) k
    (omega (arith, differ)) (omega arith))
    (cases_eq start k)

-- ---- what is found

-- where all looks of a section pass, what is found is what is found behind it
pub then_found : (passes : Look → Type 0) (tells : Look → Verdict) (section more : List Look) (verdict : Verdict)
    → AllPass passes section → Finds passes tells more verdict → Finds passes tells (section ++ more) verdict
then_found passes tells [] more verdict all found = found
then_found passes tells (look ∷ section) more verdict all found =
    inl (
      pass_first passes look section all,
      then_found passes tells section more verdict (pass_rest passes look section all) found,
    )

-- where all looks of a section pass and the next one doesn't, what is told of that one is found
pub found_before : (passes : Look → Type 0) (tells : Look → Verdict) (section more : List Look) (look : Look)
    → AllPass passes section → (passes look → ⊥) → Finds passes tells (section ++ look ∷ more) (tells look)
found_before passes tells section more look all fails =
    then_found passes tells section (look ∷ more) (tells look) all (inr (fails, refl))

-- a failure that is found in a section is found, whatever stands behind the section
pub found_within : (passes : Look → Type 0) (tells : Look → Verdict) (section more : List Look) (verdict : Verdict)
    → (verdict ≡ Accepted → ⊥) → Finds passes tells section verdict → Finds passes tells (section ++ more) verdict
found_within passes tells [] more verdict fails found = absurd (fails found)
found_within passes tells (look ∷ section) more verdict fails found =
    ⊎_elim (λ h. inl (h.0, found_within passes tells section more verdict fails h.1)) (λ h. inr h) found

found_from : (passes : Look → Type 0) (tells : Look → Verdict) (part : ℕ → Look) (more : List Look) (n start k : ℕ)
    → start ≤ k → k < start + n → ((i : ℕ) → start ≤ i → i < k → passes (part i)) → (passes (part k) → ⊥)
    → Finds passes tells (map part (range_with_len start n) ++ more) (tells (part k))
found_from passes tells part more zero start k low high all fails = absurd (omega arith)
found_from passes tells part more (suc n) start k low high all fails =
    ⊎_elim
    (λ (e : start ≡ k). inr (
      subst (λ i. passes (part i) → ⊥) (sym e) fails,
      subst (λ i. tells (part k) ≡ tells (part i)) (sym e) refl,
    ))
    (λ differ. inl (
      all start (omega arith) (omega (arith, differ)),
      found_from passes tells part more n (start + 1) k (omega (arith, differ)) (omega arith)
          (λ i low' high'. all i (omega arith) high') fails,
    ))
    (cases_eq start k)

-- a section of numbered looks: what is told of the first that fails is found
pub found_numbered : (passes : Look → Type 0) (tells : Look → Verdict) (part : ℕ → Look) (more : List Look) (n k : ℕ)
    → k < n → ((i : ℕ) → i < k → passes (part i)) → (passes (part k) → ⊥)
    → Finds passes tells (map part (indices n) ++ more) (tells (part k))
found_numbered passes tells part more n k high all fails =
    found_from passes tells part more n 0 k (omega arith) (omega arith) (λ i low less. all i less) fails

-- and where all pass, what is found is what is found behind them
pub then_numbered : (passes : Look → Type 0) (tells : Look → Verdict) (part : ℕ → Look) (more : List Look) (n : ℕ)
    (verdict : Verdict)
    → ((i : ℕ) → i < n → passes (part i)) → Finds passes tells more verdict
    → Finds passes tells (map part (indices n) ++ more) verdict
then_numbered passes tells part more n verdict all found =
    then_found passes tells (map part (indices n)) more verdict
    (pass_map_from passes part n 0 (λ i low less. all i (omega arith))) found

part_from : (passes : Look → Type 0) (tells : Look → Verdict) (part : ℕ → List Look) (verdict : Verdict) (n start k : ℕ)
    → start ≤ k → k < start + n → ((i : ℕ) → start ≤ i → i < k → AllPass passes (part i))
    → Finds passes tells (part k) verdict → (verdict ≡ Accepted → ⊥)
    → Finds passes tells (flat_map part (range_with_len start n)) verdict
part_from passes tells part verdict zero start k low high all found fails = absurd (omega arith)
part_from passes tells part verdict (suc n) start k low high all found fails =
    let more = flat_map part (range_with_len (start + 1) n) in
    ⊎_elim
    (λ (e : start ≡ k). found_within passes tells (part start) more verdict fails
    (subst (λ i. Finds passes tells (part i) verdict) (sym e) found))
    (λ differ. then_found passes tells (part start) more verdict (all start (omega arith) (omega (arith, differ)))
    (part_from passes tells part verdict n (start + 1) k (omega (arith, differ)) (omega arith)
    (λ i low' high'. all i (omega arith) high') found fails))
    (cases_eq start k)

-- numbered sections: a failure that is found in one behind sections that pass is found
pub found_in_part : (passes : Look → Type 0) (tells : Look → Verdict) (part : ℕ → List Look) (verdict : Verdict)
    (n k : ℕ)
    → k < n → ((i : ℕ) → i < k → AllPass passes (part i)) → Finds passes tells (part k) verdict
    → (verdict ≡ Accepted → ⊥)
    → Finds passes tells (flat_map part (indices n)) verdict
found_in_part passes tells part verdict n k high all found fails =
    part_from passes tells part verdict n 0 k (omega arith) (omega arith) (λ i low less. all i less) found fails

-- where all looks pass, Accepted is found
pub accepted_found : (passes : Look → Type 0) (tells : Look → Verdict) (section : List Look) → AllPass passes section
    → Finds passes tells section Accepted
accepted_found passes tells [] all = refl
accepted_found passes tells (look ∷ section) all =
    inl (
      pass_first passes look section all,
      accepted_found passes tells section (pass_rest passes look section all),
    )

-- where Accepted is found and is told of no look, all looks pass
pub found_accepted : (passes : Look → Type 0) (tells : Look → Verdict) (section : List Look)
    → ((look : Look) → tells look ≡ Accepted → ⊥) → Finds passes tells section Accepted → AllPass passes section
found_accepted passes tells [] never found = pass_nil passes
found_accepted passes tells (look ∷ section) never found =
    ⊎_elim
    (λ h. pass_cons passes look section h.0 (found_accepted passes tells section never h.1))
    (λ h. absurd (never look (sym h.1)))
    found

-- numbered sections of which all pass
pub pass_parts : (passes : Look → Type 0) (part : ℕ → List Look) (n : ℕ)
    → ((i : ℕ) → i < n → AllPass passes (part i)) → AllPass passes (flat_map part (indices n))
pass_parts passes part n all = pass_flat_from passes part n 0 (λ i low less. all i (omega arith))
