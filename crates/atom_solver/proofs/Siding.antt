-- Side clauses by their literals in order.
use Rattle.std.proofs.Common.{◌≡◌, ℕ, suc, ◌<◌, List, [], ◌∷◌, length, get_or, ap, sym, subst, ◌∙◌, refl, arith, ⊎_elim, Bool, true, false}
use Rattle.std.specs.Prelude.{◌↔◌, Contains, IsTrue}
use Rattle.std.specs.Cmp.{IsTotalOrder, IsEquivalence}
use Rattle.std.specs.Cmp.Lexicographic.{pointwise}
use Rattle.std.specs.Ordering.{eq_by_cmp, is_eq, ordering_reverse}
use Rattle.std.specs.declared.cmp.Ordering.{Ordering}
use Rattle.std.specs.declared.cmp.Ordering.TheVariants.{Less, Equal, Greater}
use Rattle.std.specs.List.{dedup}
use Rattle.std.specs.List.Sorted.{IsSorted, IsPermutation}
use Rattle.std.proofs.lemmas.Bool.{false≢true, and_parts}
use Rattle.std.proofs.lemmas.List.Kept.{IsStrictlySortedBy-dedup, Contains-dedup, Contains-from_dedup}
use Rattle.std.proofs.lemmas.Map.Keys.{Less-from_sorted}
use Rattle.std.proofs.lemmas.List.Sorted.{Contains-permutation, IsPermutation-sym}
use Rattle.lists.proofs.Membership.{Contains-nil, Contains-head, Contains-tail, Contains-cons_cases}
use Rattle.meaning_atoms.specs.declared.atom.AtomLit.{AtomLit}
use Rattle.meaning_atoms.specs.contracts.atom.AtomLitOrd.TheImpl.{cmp-value as lit_cmp}
use Rattle.meaning_atoms.specs.contracts.atom.AtomLitOrd.TheImpl.Laws as laws
use Rattle.meaning_atoms.specs.contracts.atom.AtomLitPartialEq.TheImpl.{eq-value as lit_eq}
use Rattle.meaning_atoms.proofs.SameAtoms.{lit_decides, lit_order, equal_says}
use Rattle.oracle_face.specs.Logs.{IsSameClause}
use Rattle.atom_solver.specs.Sides.{IsOrdered, IsOrderOf}

-- ---- lists in order, of any type

less_twice : (p q : Ordering) → p ≡ ordering_reverse q → p ≡ Less → q ≡ Less → ⊥
less_twice p Less a e f = cc
less_twice p Equal a e f = cc
less_twice p Greater a e f = cc

both_ways : (p q : Bool) → (p ≡ true → q ≡ true) → (q ≡ true → p ≡ true) → p ≡ q
both_ways true q to from = sym (to refl)
both_ways false true to from = from refl
both_ways false false to from = refl

abbrev pub Rise : {K : Type 0} → (K → K → Ordering) → List K → Type 0
Rise {K} R xs = (i j : ℕ) (d : K) → i < j → j < length xs → R (get_or xs i d) (get_or xs j d) ≡ Less

tail_rises : {K : Type 0} (R : K → K → Ordering) (x : K) (xs : List K) → Rise R (x ∷ xs) → Rise R xs
tail_rises R x xs h = λ i j d lt within. h (suc i) (suc j) d (omega arith) (omega arith)

module _ {K : Type 0} (R : K → K → Ordering) (o : IsTotalOrder R) (equal : (x y : K) → (R x y ≡ Equal) ↔ (x ≡ y))
    (E : K → K → Bool) (decides : (x y : K) → (E x y ≡ true) ↔ (x ≡ y)) where
  behind : (x : K) (xs : List K) → Rise R (x ∷ xs) → (y : K) → Contains xs y → R x y ≡ Less
  behind x xs h y c =
      let within = c.1 in
      ap (λ z. R x z) (sym c.2) ∙ h 0 (suc c.0) y (omega arith) (omega arith)

  not_both : (x y : K) → R x y ≡ Less → R y x ≡ Less → ⊥
  not_both x y e f = less_twice (R x y) (R y x) (o.antisymm x y) e f

  heads : (x y : K) (xs ys : List K) → Rise R (x ∷ xs) → Rise R (y ∷ ys)
      → Contains (y ∷ ys) x → Contains (x ∷ xs) y → x ≡ y
  heads x y xs ys h k c d =
      ⊎_elim sym
      (λ x_in. ⊎_elim (λ e. e) (λ y_in. absurd (not_both x y (behind x xs h y y_in) (behind y ys k x x_in)))
      (Contains-cons_cases x xs y d)) (Contains-cons_cases y ys x c)

  tail_there : (x y : K) (xs ys : List K) → Rise R (x ∷ xs) → x ≡ y
      → ((z : K) → Contains (x ∷ xs) z → Contains (y ∷ ys) z) → (z : K) → Contains xs z → Contains ys z
  tail_there x y xs ys h e there z c =
      ⊎_elim
      (λ (f : y ≡ z).
      let less = behind x xs h z c in
      let same : R x x ≡ Less = ap (λ w. R x w) (e ∙ f) ∙ less in
      absurd (not_both x x same same))
      (λ rest. rest) (Contains-cons_cases y ys z (there z (Contains-tail x xs z c)))

  pub same_sorted : (xs ys : List K) → Rise R xs → Rise R ys
      → ((z : K) → Contains xs z → Contains ys z) → ((z : K) → Contains ys z → Contains xs z) → xs ≡ ys
  same_sorted [] [] h k there back = refl
  same_sorted [] (y ∷ ys) h k there back = absurd (Contains-nil y (back y (Contains-head y ys y refl)))
  same_sorted (x ∷ xs) [] h k there back = absurd (Contains-nil x (there x (Contains-head x xs x refl)))
  same_sorted (x ∷ xs) (y ∷ ys) h k there back =
      let e = heads x y xs ys h k (there x (Contains-head x xs x refl)) (back y (Contains-head y ys y refl)) in
      ap (λ z. z ∷ xs) e
      ∙ ap (λ zs. y ∷ zs)
      (same_sorted xs ys (tail_rises R x xs h) (tail_rises R y ys k) (tail_there x y xs ys h e there) (tail_there y x ys xs k (sym e) back))

  ties : (x y : K) → E x y ≡ eq_by_cmp R x y
  ties x y = both_ways (E x y) (is_eq (R x y))
      (λ e. ap is_eq ((equal x y).1 ((decides x y).0 e)))
      (λ e. (decides x y).1 ((equal x y).0 (equal_says (R x y) e)))

  equivalence : IsEquivalence E
  equivalence = record {
    refl = λ x. (decides x x).1 refl;
    symm = λ x y. both_ways (E x y) (E y x) (λ e. (decides y x).1 (sym ((decides x y).0 e)))
        (λ e. (decides x y).1 (sym ((decides y x).0 e)));
    congr = λ x y z e. ap (λ w. E w z) ((decides x y).0 e);
  }

  pub dedup_rises : (xs : List K) → IsSorted R xs → Rise R (dedup E xs)
  dedup_rises xs up =
      let rises = IsStrictlySortedBy-dedup o ties xs up in
      λ i j d lt within. Less-from_sorted R (dedup E xs) i j d rises lt within

  pub dedup_there : (xs : List K) (x : K) → Contains xs x → Contains (dedup E xs) x
  dedup_there xs x c = Contains-dedup equivalence (λ k l. (decides k l).0) xs x c

  -- lists are equal by `==` where they are one list
  pointwise_same : (xs ys : List K) → pointwise E xs ys ≡ true → xs ≡ ys
  pointwise_same [] [] e = refl
  pointwise_same [] (y ∷ ys) e = absurd (false≢true e)
  pointwise_same (x ∷ xs) [] e = absurd (false≢true e)
  pointwise_same (x ∷ xs) (y ∷ ys) e =
      let both = and_parts (E x y) (pointwise E xs ys) e in
      ap (λ z. z ∷ xs) ((decides x y).0 both.0) ∙ ap (λ zs. y ∷ zs) (pointwise_same xs ys both.1)

  pointwise_itself : (xs : List K) → pointwise E xs xs ≡ true
  pointwise_itself [] = refl
  pointwise_itself (x ∷ xs) = rw ((decides x x).1 refl) (pointwise_itself xs)

  pub pointwise_decides : (xs ys : List K) → (pointwise E xs ys ≡ true) ↔ (xs ≡ ys)
  pointwise_decides xs ys =
      (λ e. pointwise_same xs ys e, λ e. subst (λ zs. pointwise E xs zs ≡ true) e (pointwise_itself xs))

-- ---- literals in order

pub same_literals : (xs ys : List AtomLit) → IsOrdered xs → IsOrdered ys → IsSameClause xs ys → xs ≡ ys
same_literals xs ys h k same =
    same_sorted (lit_cmp).it laws.total-law lit_order (lit_eq).it lit_decides xs ys h.rises k.rises same.there same.back

pub order_of : (given sorted deduped : List AtomLit) → IsSorted (lit_cmp).it sorted
    → IsPermutation given sorted → deduped ≡ dedup (lit_eq).it sorted → IsOrderOf given deduped
order_of given sorted deduped up moved e = subst (IsOrderOf given) (sym e) (record {
  ordered_is = record { rises = dedup_rises (lit_cmp).it laws.total-law lit_order (lit_eq).it lit_decides sorted up };
  same = record {
    there = λ l c. Contains-permutation sorted given l (IsPermutation-sym given sorted moved)
        (Contains-from_dedup (lit_eq).it sorted l c);
    back = λ l c. dedup_there (lit_cmp).it laws.total-law lit_order (lit_eq).it lit_decides sorted l
        (Contains-permutation given sorted l moved c);
  };
})

pub literals_decide : (xs ys : List AtomLit) → (pointwise (lit_eq).it xs ys ≡ true) ↔ (xs ≡ ys)
literals_decide xs ys = pointwise_decides (lit_cmp).it laws.total-law lit_order (lit_eq).it lit_decides xs ys

pub told_same : (r : Bool) (xs ys zs : List AtomLit) → r ≡ pointwise (lit_eq).it xs zs → xs ≡ ys
    → (IsTrue r ↔ (ys ≡ zs))
told_same r xs ys zs e same =
    let both = literals_decide xs zs in
    (λ yes. sym same ∙ both.0 (sym e ∙ yes), λ is. e ∙ both.1 (same ∙ is))
