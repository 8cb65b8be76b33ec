-- Where a number stands among the contraries of an assumption.
use Rattle.std.proofs.Common.{◌≡◌, ◌≤◌, ◌<◌, ◌+◌, ◌-◌, ℕ, true, false, length, get_or, arith, ltb, ltb-true, ltb-false}
use Rattle.std.specs.List.Sorted.{IsPartitionPoint, IsPartitionedBy}
use Rattle.std.proofs.lemmas.List.{get_or-map, length-map}
use Rattle.std.proofs.lemmas.List.Elements.{Contains-get_or}
use Rattle.std.proofs.lemmas.List.Sorted.{IsPartitionedBy-ltb}
use Rattle.semantics.specs.AbaFrameworks.{Aba, IsNumberedAba}
use Rattle.meaning_atoms.specs.AbaReadings.{HasContrary}
use Rattle.edit_rules.specs.AbaEdits.{contraries_of}
use Rattle.aba_encoding.proofs.ContraryLemmas.{contraries_ahead, contrary_low, contrary_under, own_pairs, seconds_rise}
use Rattle.aba_encoding.proofs.HeadLemmas.{not_falling}
use Rattle.aba_encoding.proofs.PlaceLemmas.{next_there, none_there, place_first, place_next}
use Rattle.aba_encoding.specs.Places.{HasNoneAfter, IsCutAt, IsNextAfter, IsPlaceBefore}

module _ (f : Aba) (form : IsNumberedAba f) (a : ℕ) where
  pub how_many : length (contraries_of f.contraries a) ≡ length (own_pairs f form a)
  how_many = length-map (own_pairs f form a) (λ (p : ℕ × ℕ). p.1)

  pub contrary_there : (k : ℕ) → k < length (own_pairs f form a)
      → get_or (contraries_of f.contraries a) k 0 ≡ (get_or (own_pairs f form a) k (0, 0)).1
  contrary_there k lt = get_or-map (λ (p : ℕ × ℕ). p.1) (own_pairs f form a) k (0, 0) 0 lt

  pub parted : (n : ℕ) → IsPartitionedBy (λ p. ltb p.1 n) (own_pairs f form a)
  parted n = IsPartitionedBy-ltb (λ (p : ℕ × ℕ). p.1) (own_pairs f form a) n
      (not_falling (λ (p : ℕ × ℕ). p.1) (own_pairs f form a) (seconds_rise f form a))

  pub contrary_cut : (n index : ℕ)
      → IsPartitionPoint (λ p. ltb p.1 n ≡ true) (λ p. ltb p.1 n ≡ false) (own_pairs f form a) index
      → IsCutAt n (contraries_of f.contraries a) index
  contrary_cut n index point = record {
    before = λ k lt inside.
        let here : k < length (own_pairs f form a) = omega (arith, how_many) in
        omega (arith, contrary_there k here, ltb-true _ _ (point.0 k (0, 0) (omega arith) lt));
    after = λ k ge inside.
        let here : k < length (own_pairs f form a) = omega (arith, how_many) in
        omega (arith, contrary_there k here, ltb-false _ _ (point.1 k (0, 0) ge here));
  }

  pub contrary_place_first : (n index : ℕ) → IsCutAt n (contraries_of f.contraries a) index → index ≡ 0 → 1 ≤ n
      → IsPlaceBefore (HasContrary f a) n 1
  contrary_place_first = place_first (HasContrary f a) (contrary_low f form a) (contrary_under f form a)
      (contraries_of f.contraries a) (contraries_ahead f form a)

  pub contrary_place_next : (n index : ℕ) → IsCutAt n (contraries_of f.contraries a) index → (index ≡ 0 → ⊥)
      → index ≤ length (contraries_of f.contraries a)
      → IsPlaceBefore (HasContrary f a) n (get_or (contraries_of f.contraries a) (index - 1) 0 + 1)
  contrary_place_next = place_next (HasContrary f a) (contrary_low f form a) (contrary_under f form a)
      (contraries_of f.contraries a) (contraries_ahead f form a)

  pub contrary_next : (n index : ℕ) → IsCutAt (n + 1) (contraries_of f.contraries a) index
      → index < length (contraries_of f.contraries a)
      → IsNextAfter (HasContrary f a) n (get_or (contraries_of f.contraries a) index 0)
  contrary_next = next_there (HasContrary f a) (contrary_low f form a) (contrary_under f form a)
      (contraries_of f.contraries a) (contraries_ahead f form a)

  pub contrary_none : (n index : ℕ) → IsCutAt (n + 1) (contraries_of f.contraries a) index
      → index ≡ length (contraries_of f.contraries a) → HasNoneAfter (HasContrary f a) n
  contrary_none = none_there (HasContrary f a) (contrary_low f form a) (contrary_under f form a)
      (contraries_of f.contraries a) (contraries_ahead f form a)

  pub contrary_high : (k : ℕ) → k < length (contraries_of f.contraries a)
      → get_or (contraries_of f.contraries a) k 0 < 1000001
  contrary_high k lt =
      contrary_under f form a (get_or (contraries_of f.contraries a) k 0)
      (((contraries_ahead f form a).sound (get_or (contraries_of f.contraries a) k 0)
      (Contains-get_or (contraries_of f.contraries a) k 0 lt)).0)
