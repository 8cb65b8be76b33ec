-- The contraries of an assumption, in their order.
use Rattle.std.proofs.Common.{◌≡◌, ◌<◌, ◌≤◌, ◌+◌, ℕ, List, length, get_or, filter, arith, subst, ⊎_elim, eqb, eqb-true}
use Rattle.std.specs.Prelude.{Contains}
use Rattle.std.specs.List.Sorted.{IsStrictlyIncreasing}
use Rattle.std.proofs.lemmas.List.{get_or-map, length-map}
use Rattle.std.proofs.lemmas.List.Elements.{Contains-get_or}
use Rattle.std.proofs.lemmas.List.Kept.{AllPairs-filter, AllPairs-from_increasing}
use Rattle.lists.proofs.Filters.{Contains-filter}
use Rattle.semantics.specs.AbaFrameworks.{Aba, IsNumberedAba}
use Rattle.semantics.specs.Framework.{IsPairBefore}
use Rattle.meaning_atoms.specs.AbaReadings.{HasContrary}
use Rattle.edit_rules.specs.AbaEdits.{contraries_of}
use Rattle.edit_rules.proofs.ContraryLists.{contraries_of_members}
use Rattle.aba_encoding.proofs.WalkLemmas.{AreAhead, all_ahead}

second : ℕ × ℕ → ℕ
second p = p.1

module _ (f : Aba) (form : IsNumberedAba f) (a : ℕ) where
  abbrev pub own_pairs : List (ℕ × ℕ)
  own_pairs = filter (λ p. eqb p.0 a) f.contraries

  pub seconds_rise : (i j : ℕ) (d : ℕ × ℕ) → i < j → j < length own_pairs
      → (get_or own_pairs i d).1 < (get_or own_pairs j d).1
  seconds_rise i j d lt within =
      let left = of_a (get_or own_pairs i d) (Contains-get_or own_pairs i d (omega arith)) in
      let right = of_a (get_or own_pairs j d) (Contains-get_or own_pairs j d within) in
      ⊎_elim (λ less. absurd (omega (arith, less, left, right))) (λ tie. tie.1)
      (AllPairs-filter IsPairBefore (λ p. eqb p.0 a) f.contraries form.form.contraries_rise i j d lt within)
    where
      of_a : (p : ℕ × ℕ) → Contains own_pairs p → p.0 ≡ a
      of_a p c = eqb-true p.0 a ((Contains-filter (λ p. eqb p.0 a) f.contraries p).0 c).1

  pub contraries_rise : IsStrictlyIncreasing (contraries_of f.contraries a)
  unfolding second
  contraries_rise = λ k within.
      let long = length-map own_pairs second in
      let here = get_or-map second own_pairs k (0, 0) 0 (omega arith) in
      let next = get_or-map second own_pairs (k + 1) (0, 0) 0 (omega arith) in
      let less = seconds_rise k (k + 1) (0, 0) (omega arith) (omega arith) in
      omega arith

  pub contrary_low : (c : ℕ) → HasContrary f a c → 1 ≤ c
  contrary_low c con = (form.form.contraries_are a c con).1.low

  pub contrary_under : (c : ℕ) → HasContrary f a c → c < 1000001
  contrary_under c con =
      let high = (form.form.contraries_are a c con).1.high in let atoms = form.atoms in omega arith

  pub contraries_ahead : AreAhead (HasContrary f a) contrary_low contrary_under 1 (contraries_of f.contraries a)
  contraries_ahead = all_ahead (HasContrary f a) contrary_low contrary_under (contraries_of f.contraries a)
      (λ c d. (contraries_of_members f.contraries a c).0 d) (λ c con. (contraries_of_members f.contraries a c).1 con)
      (AllPairs-from_increasing (contraries_of f.contraries a) contraries_rise)

  pub pair_under : (pairs : List (ℕ × ℕ)) → pairs ≡ own_pairs → (n : ℕ) → n < length pairs
      → (get_or pairs n (0, 0)).1 < 1000001
  pair_under pairs are n within =
      let p = get_or pairs n (0, 0) in
      let kept = (Contains-filter (λ (p : ℕ × ℕ). eqb p.0 a) f.contraries p).0
      (subst (λ ps. Contains ps p) are (Contains-get_or pairs n (0, 0) within)) in
      contrary_under p.1 (subst (λ m. Contains f.contraries (m, p.1)) (eqb-true p.0 a kept.1) kept.0)
