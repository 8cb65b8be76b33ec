-- Rising numbers are cut at a bound, and the number at the cut is the least from the bound on.
use Rattle.std.proofs.Common.{◌≡◌, ◌≤◌, ◌<◌, ℕ, List, length, get_or, map, true, false, arith, ap, refl, subst, ◌∙◌, ⊎_elim}
use Rattle.std.proofs.Common.{eqb, ltb, leb, ltb-true, ltb-false, leb-true, le-leb, eq-eqb, [], ◌∷◌}
use Rattle.std.specs.Prelude.{Contains, ◌↔◌, IsTrue}
use Rattle.std.specs.List.Sorted.{IsPartitionedBy, IsPartitionPoint, IsStrictlyIncreasing}
use Rattle.std.proofs.lemmas.Bool.{cases_lt, eqb-true, false≢true}
use Rattle.std.proofs.lemmas.List.{get_or_default, get_or-map, length-map}
use Rattle.std.proofs.lemmas.List.Sorted.{IsPartitionedBy-ltb}
use Rattle.std.proofs.lemmas.List.Elements.{Contains-get_or}
use Rattle.aba_facts.specs.Cuts.{IsClear, IsCut, IsFirstFrom}
use Rattle.lists.proofs.RisingLists.{rises_along}

pub map_same : (xs : List ℕ) → map (λ (x : ℕ). x) xs ≡ xs
map_same [] = refl
map_same (x ∷ xs) = ap (λ ys. x ∷ ys) (map_same xs)

module _ {X : Type 0} (key : X → ℕ) (xs : List X) where
  key_at : (k : ℕ) (d : X) → k < length xs → get_or (map key xs) k 0 ≡ key (get_or xs k d)
  key_at k d lt = get_or-map key xs k d 0 lt

  -- so items with rising keys can be searched for the first key from a bound on
  pub parted : (bound : ℕ) → IsStrictlyIncreasing (map key xs) → IsPartitionedBy (λ x. ltb (key x) bound) xs
  parted bound up = IsPartitionedBy-ltb key xs bound
      (λ i j d le lt. omega (
        arith,
        rises_along (map key xs) up i j le (omega (arith, length-map xs key, lt)),
        key_at i d (omega arith),
        key_at j d lt,
      ))

  pub cut_made : (bound n : ℕ) → n ≤ length xs
      → IsPartitionPoint (λ x. ltb (key x) bound ≡ true) (λ x. ltb (key x) bound ≡ false) xs n
      → (d : X) → IsCut bound (map key xs) n
  cut_made bound n within cut d = record {
    within = omega (arith, length-map xs key);
    before = λ k lt. omega (arith, key_at k d (omega arith), ltb-true _ _ (cut.0 k d (omega arith) lt));
    after = λ k late lt.
        let inside : k < length xs = omega (arith, length-map xs key, lt) in
        omega (arith, key_at k d inside, ltb-false _ _ (cut.1 k d late inside));
  }

-- a member from the bound on stands at the cut or after it
pub behind_cut : (bound : ℕ) (xs : List ℕ) (n : ℕ) → IsCut bound xs n → (y : ℕ) (c : Contains xs y) → bound ≤ y
    → n ≤ c.0
behind_cut bound xs n cut y c late =
    ⊎_elim
    (λ lt. absurd (omega (arith, cut.before c.0 lt, get_or_default xs c.0 0 y c.1 ∙ c.2)))
    (λ ge. ge) (cases_lt c.0 n)

-- where the cut is past all numbers, all are below the bound
pub all_below : (bound : ℕ) (xs : List ℕ) (n : ℕ) → IsCut bound xs n → length xs ≤ n → (y : ℕ) → Contains xs y
    → y < bound
all_below bound xs n cut past y c =
    ⊎_elim (λ lt. lt) (λ ge. absurd (omega (arith, behind_cut bound xs n cut y c ge, c.1))) (cases_lt y bound)

-- else the number there is the least from the bound on
pub first_made : (bound : ℕ) (xs : List ℕ) (n y : ℕ) → IsStrictlyIncreasing xs → IsCut bound xs n → n < length xs
    → y ≡ get_or xs n 0 → IsFirstFrom xs bound y
first_made bound xs n y up cut lt is = rw is (record {
  member = Contains-get_or xs n 0 lt;
  late = cut.after n (omega arith) lt;
  least = λ z c late.
      omega (
        arith,
        rises_along xs up n c.0 (behind_cut bound xs n cut z c late) c.1,
        get_or_default xs c.0 0 z c.1 ∙ c.2,
      );
})

-- ---- what the first number tells

pub clear_at : (xs : List ℕ) (begin end y : ℕ) → IsFirstFrom xs begin y → IsTrue (leb end y) ↔ IsClear xs begin end
clear_at xs begin end y first = (
  λ t z c late early. omega (arith, leb-true _ _ t, first.least z c late),
  λ clear. ⊎_elim (λ lt. absurd (clear y first.member first.late lt)) (λ ge. le-leb _ _ ge) (cases_lt y end),
)

pub clear_past : (xs : List ℕ) (begin end : ℕ) → ((y : ℕ) → Contains xs y → y < begin)
    → IsTrue true ↔ IsClear xs begin end
clear_past xs begin end below = (λ t y c late early. omega (arith, below y c), λ clear. refl)

pub member_at : (xs : List ℕ) (number y : ℕ) → IsFirstFrom xs number y → IsTrue (eqb y number) ↔ Contains xs number
member_at xs number y first = (
  λ t. subst (λ z. Contains xs z) (eqb-true y number t) first.member,
  λ c. let least = first.least number c (omega arith) in let late = first.late in
      eq-eqb y number (omega arith),
)

pub member_past : (xs : List ℕ) (number : ℕ) → ((y : ℕ) → Contains xs y → y < number)
    → IsTrue false ↔ Contains xs number
member_past xs number below = (λ e. absurd (false≢true e), λ c. absurd (omega (arith, below number c)))
