-- The numbers of the rules that head an atom, by the pairs in which these rules are found.
use Rattle.std.proofs.Common.{◌≡◌, ◌≤◌, ◌<◌, ◌+◌, ◌-◌, ℕ, true, false, List, length, get_or, map, arith, ap, sym, subst, ◌∙◌, ⊎_elim}
use Rattle.std.proofs.Common.{ltb, ltb-true, ltb-false}
use Rattle.std.specs.Prelude.{Contains, ◌↔◌}
use Rattle.std.specs.List.Sorted.{IsNonDecreasingBy, IsPartitionPoint, IsPartitionedBy, IsStrictlyIncreasing}
use Rattle.std.proofs.lemmas.Bool.{cases_eq}
use Rattle.std.proofs.lemmas.List.{get_or-map, length-map}
use Rattle.std.proofs.lemmas.List.Elements.{Contains-get_or}
use Rattle.std.proofs.lemmas.List.Kept.{AllPairs-from_increasing}
use Rattle.std.proofs.lemmas.List.Sorted.{IsPartitionedBy-ltb}
use Rattle.attack_index.specs.PairOrder.{PairsRise}
use Rattle.semantics.specs.AbaFrameworks.{Aba, IsNumberedAba}
use Rattle.semantics.specs.Rules.{Rule}
use Rattle.aba_notions.specs.Storage.{rule_at}
use Rattle.oracle_face.specs.AbaNeeded.{Heads}
use Rattle.aba_encoding.specs.Listing.{heading}
use Rattle.aba_encoding.proofs.ListingLemmas.{heading_is, numbers_at}
use Rattle.aba_encoding.proofs.NeededLemmas.{heads_ahead, heads_low, heads_under}
use Rattle.aba_encoding.specs.Places.{HasNoneAfter, IsCutAt, IsNextAfter, IsPlaceBefore}
use Rattle.aba_encoding.proofs.PlaceLemmas.{next_there, none_there, place_first, place_next}

abbrev pub number_of : Rule → ℕ
number_of r = r.number

-- numbers that rise don't fall
pub not_falling : {X : Type 0} (key : X → ℕ) (xs : List X)
    → ((i j : ℕ) (d : X) → i < j → j < length xs → key (get_or xs i d) < key (get_or xs j d))
    → IsNonDecreasingBy key xs
not_falling key xs rise i j d le lt =
    ⊎_elim (λ e. omega (arith, ap (λ k. key (get_or xs k d)) e))
    (λ other. let less = rise i j d (omega arith) lt in omega arith) (cases_eq i j)

module _ (f : Aba) (form : IsNumberedAba f) (x : ℕ) (numbers : List ℕ) (headed : List (ℕ × ℕ))
    (are : numbers ≡ map number_of f.rules) (rise : PairsRise headed)
    (rules : (h k : ℕ) → Contains headed (h, k)
    ↔ ((h ≡ x) × (k < length f.rules) × ((rule_at f.rules k).head ≡ x))) where
  at_pair : ℕ × ℕ → ℕ
  at_pair p = get_or numbers p.1 0

  same : numbers_at numbers headed ≡ heading f x
  same = heading_is f form x numbers headed are rise rules

  pub long : length (heading f x) ≡ length headed
  unfolding at_pair
  long = ap length (sym same) ∙ length-map headed at_pair

  -- what stands at an index
  pub number_there : (k : ℕ) → k < length headed
      → get_or numbers (get_or headed k (0, 0)).1 0 ≡ get_or (heading f x) k 0
  unfolding at_pair
  number_there k lt = sym (get_or-map at_pair headed k (0, 0) 0 lt) ∙ ap (λ xs. get_or xs k 0) same

  pub within : (k : ℕ) → k < length headed → (get_or headed k (0, 0)).1 < length numbers
  within k lt =
      let p = get_or headed k (0, 0) in
      let inside = ((rules p.0 p.1).0 (Contains-get_or headed k (0, 0) lt)).1 in
      let same = ap length are in
      let whole = length-map f.rules number_of in
      omega arith

  -- ---- cuts

  pub parted_numbers : (n : ℕ) → IsPartitionedBy (λ m. ltb m n) numbers
  parted_numbers n = IsPartitionedBy-ltb (λ (m : ℕ). m) numbers n (not_falling (λ (m : ℕ). m) numbers
      (AllPairs-from_increasing numbers (subst IsStrictlyIncreasing (sym are) form.form.numbers_rise)))

  pub parted_pairs : (index : ℕ) → IsPartitionedBy (λ p. ltb p.1 index) headed
  parted_pairs index = IsPartitionedBy-ltb (λ (p : ℕ × ℕ). p.1) headed index (not_falling (λ (p : ℕ × ℕ). p.1) headed
      (λ i j d lt inside.
      let p = get_or headed i d in
      let q = get_or headed j d in
      let left = (rules p.0 p.1).0 (Contains-get_or headed i d (omega arith)) in
      let right = (rules q.0 q.1).0 (Contains-get_or headed j d inside) in
      ⊎_elim (λ less. absurd (omega (arith, less, left.0, right.0))) (λ tie. tie.1) (rise.order i j d lt inside)))

  pub cut : (n index first : ℕ) → IsPartitionPoint (λ m. ltb m n ≡ true) (λ m. ltb m n ≡ false) numbers index
      → IsPartitionPoint (λ p. ltb p.1 index ≡ true) (λ p. ltb p.1 index ≡ false) headed first
      → IsCutAt n (heading f x) first
  cut n index first of_numbers of_pairs = record {
    before = λ k lt inside.
        let here : k < length headed = omega (arith, long) in
        let low = ltb-true _ _ (of_pairs.0 k (0, 0) (omega arith) lt) in
        let less = ltb-true _ _ (of_numbers.0 (get_or headed k (0, 0)).1 0 (omega arith) low) in
        omega (arith, less, number_there k here);
    after = λ k ge inside.
        let here : k < length headed = omega (arith, long) in
        let high = ltb-false _ _ (of_pairs.1 k (0, 0) ge here) in
        let more = ltb-false _ _ (of_numbers.1 (get_or headed k (0, 0)).1 0 high (within k here)) in
        omega (arith, more, number_there k here);
  }

-- ---- places among them

module _ (f : Aba) (form : IsNumberedAba f) (x : ℕ) where
  pub head_place_first : (n index : ℕ) → IsCutAt n (heading f x) index → index ≡ 0 → 1 ≤ n
      → IsPlaceBefore (Heads f x) n 1
  head_place_first =
      place_first (Heads f x) (heads_low f form x) (heads_under f form x) (heading f x) (heads_ahead f form x)

  pub head_place_next : (n index : ℕ) → IsCutAt n (heading f x) index → (index ≡ 0 → ⊥)
      → index ≤ length (heading f x) → IsPlaceBefore (Heads f x) n (get_or (heading f x) (index - 1) 0 + 1)
  head_place_next =
      place_next (Heads f x) (heads_low f form x) (heads_under f form x) (heading f x) (heads_ahead f form x)

  pub head_next : (n index : ℕ) → IsCutAt (n + 1) (heading f x) index → index < length (heading f x)
      → IsNextAfter (Heads f x) n (get_or (heading f x) index 0)
  head_next = next_there (Heads f x) (heads_low f form x) (heads_under f form x) (heading f x) (heads_ahead f form x)

  pub head_none : (n index : ℕ) → IsCutAt (n + 1) (heading f x) index → index ≡ length (heading f x)
      → HasNoneAfter (Heads f x) n
  head_none = none_there (Heads f x) (heads_low f form x) (heads_under f form x) (heading f x) (heads_ahead f form x)

  pub heading_high : (k : ℕ) → k < length (heading f x) → get_or (heading f x) k 0 < 1000001
  heading_high k lt =
      heads_under f form x (get_or (heading f x) k 0)
      (((heads_ahead f form x).sound (get_or (heading f x) k 0) (Contains-get_or (heading f x) k 0 lt)).0)
