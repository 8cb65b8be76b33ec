-- The steps that are kept, and their numbers.
use Rattle.std.proofs.Common.{◌≡◌, ⊎_elim, ℕ, zero, suc, ◌+◌, ◌<◌, ◌≤◌, List, length, sym, subst, ◌∙◌, arith}
use Rattle.std.specs.Prelude.{Contains, slice_index_or}
use Rattle.std.specs.List.Sorted.{IsStrictlyIncreasing}
use Rattle.std.proofs.Math.ListN.{set, length-set}
use Rattle.std.proofs.lemmas.Bool.{cases_eq}
use Rattle.std.proofs.lemmas.List.{get_or-set_same, get_or-set_other, get_or_default}
use Rattle.std.proofs.lemmas.List.Elements.{Contains-get_or}
use Rattle.std.proofs.lemmas.List.Kept.{AllPairs-from_increasing}
use Rattle.lists.specs.Members.{IsSetOf}
use Rattle.semantics.specs.Frameworks.{Framework}
use Rattle.oracle_face.specs.Logs.{OracleLog, IsLog, IsNumberOf, Reaches}
use Rattle.session_log.proofs.StepLemmas.{reached_before}
use Rattle.certificate_making.specs.Trimmed.{IsNumbering, number_in}

-- the steps that are kept are no later than the last
pub kept_bounds : (f : Framework) (log : OracleLog) (step : ℕ) (kept : List ℕ) → IsLog f log
    → IsNumberOf log.steps step → IsSetOf (Reaches log.steps step) kept → (k : ℕ) → Contains kept k
    → (0 < k) × (k ≤ step)
kept_bounds f log step kept form is reached k c = reached_before f log step k form is ((reached.members k).0 c)

-- ---- numbers

pub rising_below : (kept : List ℕ) → IsStrictlyIncreasing kept → ((k : ℕ) → Contains kept k → 0 < k) → (i : ℕ)
    → i < length kept → i < slice_index_or kept i 0
rising_below kept rises low zero lt = low (slice_index_or kept 0 0) (Contains-get_or kept 0 0 lt)
rising_below kept rises low (suc i) lt =
    let before = rising_below kept rises low i (omega arith) in
    let up = AllPairs-from_increasing kept rises i (suc i) 0 (omega arith) lt in
    omega arith

pub numbering_next : (kept now new : List ℕ) (last index k d : ℕ) → IsStrictlyIncreasing kept
    → index < length kept → k ≡ slice_index_or kept index d → k < length now → IsNumbering kept last index now
    → new ≡ set now k (index + 1) → IsNumbering kept last (index + 1) new
numbering_next kept now new last index k d rises lt is within h made =
    let here : k ≡ slice_index_or kept index 0 = is ∙ get_or_default kept index d 0 lt in
    rw made (record {
      room = omega (arith, h.room, length-set {A = ℕ});
      so_far = record {
        each = λ i low. ⊎_elim
            (λ (same : i ≡ index).
            subst (λ (j : ℕ). number_in (set now k (index + 1)) (slice_index_or kept j 0) ≡ j + 1) (sym same)
            (subst (λ (j : ℕ). slice_index_or (set now k (index + 1)) j 0 ≡ index + 1) here
            (get_or-set_same now k (index + 1) 0 within)))
            (λ ne.
            let up = AllPairs-from_increasing kept rises i index 0 (omega arith) lt in
            get_or-set_other now k (slice_index_or kept i 0) (index + 1) 0
            (λ (e : slice_index_or kept i 0 ≡ k). omega (arith, up, e, here))
            ∙ h.so_far.each i (omega arith))
            (cases_eq i index);
      };
    })
