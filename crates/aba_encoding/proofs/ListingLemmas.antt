-- The needed axioms are listed one after the other.
use Rattle.std.proofs.Common.{◌≡◌, ◌+◌, ◌<◌, ◌≤◌, ℕ, List, [], ◌∷◌, ◌++◌, length, get_or, map, filter, take, drop, arith, ap, refl, sym, subst, ◌∙◌, ⊎_elim, eqb, eqb-true, eq-eqb}
use Rattle.std.specs.Prelude.{Contains, ◌↔◌}
use Rattle.std.specs.List.{flat_map, range_with_len}
use Rattle.std.specs.List.Sorted.{IsStrictlyIncreasing}
use Rattle.std.proofs.lemmas.List.{append_assoc, append-nil, drop_all, drop_more, get_or-map, get_or_default, length-map, map-append, take_all, take_more}
use Rattle.std.proofs.lemmas.List.Concat.{flat_map-append}
use Rattle.std.proofs.lemmas.List.FromFn.{map-range_with_len_more}
use Rattle.std.proofs.lemmas.List.Elements.{Contains-get_or}
use Rattle.std.proofs.lemmas.List.Kept.{AllPairs-filter, AllPairs-from_increasing}
use Rattle.attack_index.specs.PairOrder.{PairsRise}
use Rattle.lists.proofs.Filters.{Contains-filter}
use Rattle.semantics.specs.AbaFrameworks.{Aba, IsNumberedAba}
use Rattle.semantics.specs.Rules.{Rule}
use Rattle.aba_notions.specs.Storage.{no_rule, rule_at}
use Rattle.aba_notions.proofs.UnfoundedLemmas.{read_number}
use Rattle.meaning_atoms.specs.declared.aba_axiom.AbaAxiom.{AbaAxiom}
use Rattle.meaning_atoms.specs.declared.axiom.AxiomName.{AxiomName}
use Rattle.meaning_atoms.specs.declared.axiom.AxiomName.TheVariants.{Aba as OfAba}
use Rattle.aba_encoding.specs.Listing.{Gains, walk_along, heading}
use Rattle.lists.proofs.RisingLists.{same_rising}
use Rattle.lists.proofs.Images.{image_there, image_from}
use Rattle.aba_facts.proofs.CutLemmas.{map_same}

abbrev number_of : Rule → ℕ
number_of r = r.number

-- one list of axioms after the other
pub gains_on : (xs ys : List AbaAxiom) (old mid new : List AxiomName) → Gains xs old mid → Gains ys mid new
    → Gains (xs ++ ys) old new
gains_on xs ys old mid new first second =
    second ∙ ap (λ t. t ++ map OfAba ys) first ∙ append_assoc old (map OfAba xs) (map OfAba ys)
    ∙ ap (λ t. old ++ t) (sym (map-append OfAba xs ys))

pub gains_nothing : (old : List AxiomName) → Gains [] old old
gains_nothing old = sym (append-nil old)

-- ---- walks

-- what is left of a walk, behind the axioms so far, makes them those of the goal
abbrev pub HasLeft : (ℕ → ℕ → List AbaAxiom) → (ℕ → List AbaAxiom) → List AbaAxiom → List ℕ → ℕ → ℕ
    → List AxiomName → List AxiomName → Type 0
HasLeft step end goal stops k i old new =
    new ++ map OfAba (walk_along step end i (drop k stops)) ≡ old ++ map OfAba goal

module _ (step : ℕ → ℕ → List AbaAxiom) (end : ℕ → List AbaAxiom) (goal : List AbaAxiom) (stops : List ℕ) where
  pub left_begins : (front : List AbaAxiom) (old new : List AxiomName) → Gains front old new
      → front ++ walk_along step end 1 stops ≡ goal → HasLeft step end goal stops 0 1 old new
  left_begins front old new gains is =
      let walk = walk_along step end 1 stops in
      ap (λ t. t ++ map OfAba walk) gains ∙ append_assoc old (map OfAba front) (map OfAba walk)
      ∙ ap (λ t. old ++ t) (sym (map-append OfAba front walk)) ∙ ap (λ t. old ++ map OfAba t) is

  pub left_goes : (k i y : ℕ) (old mid new : List AxiomName) → HasLeft step end goal stops k i old mid
      → k < length stops → get_or stops k 0 ≡ y → Gains (step i y) mid new
      → HasLeft step end goal stops (k + 1) (y + 1) old new
  left_goes k i y old mid new left lt at gains =
      let later = walk_along step end (y + 1) (drop (k + 1) stops) in
      let opened : drop k stops ≡ y ∷ drop (k + 1) stops =
      drop_more stops k 0 lt ∙ ap (λ z. z ∷ drop (k + 1) stops) at in
      ap (λ t. t ++ map OfAba later) gains ∙ append_assoc mid (map OfAba (step i y)) (map OfAba later)
      ∙ ap (λ t. mid ++ t) (sym (map-append OfAba (step i y) later))
      ∙ ap (λ t. mid ++ map OfAba (walk_along step end i t)) (sym opened) ∙ left

  pub left_ends : (k i : ℕ) (old mid new : List AxiomName) → HasLeft step end goal stops k i old mid
      → length stops ≤ k → Gains (end i) mid new → Gains goal old new
  left_ends k i old mid new left past gains =
      gains ∙ ap (λ t. mid ++ map OfAba (walk_along step end i t)) (sym (drop_all k stops past)) ∙ left

-- ---- loops over lists

module _ {X : Type 0} (g : X → List AbaAxiom) where
  pub flat_more : (xs : List X) (k : ℕ) (d x : X) (old mid new : List AxiomName) → k < length xs
      → get_or xs k d ≡ x → Gains (flat_map g (take k xs)) old mid → Gains (g x) mid new
      → Gains (flat_map g (take (k + 1) xs)) old new
  flat_more xs k d x old mid new lt at first second =
      subst (λ zs. Gains zs old new)
      (ap (λ zs. flat_map g (take k xs) ++ zs) (sym (append-nil (g x)))
      ∙ sym (flat_map-append g (take k xs) (x ∷ []))
      ∙ ap (flat_map g) (ap (λ z. take k xs ++ z ∷ []) (sym at) ∙ sym (take_more xs k d lt)))
      (gains_on (flat_map g (take k xs)) (g x) old mid new first second)

  pub flat_all : (xs : List X) (k : ℕ) (old new : List AxiomName) → length xs ≤ k
      → Gains (flat_map g (take k xs)) old new → Gains (flat_map g xs) old new
  flat_all xs k old new past gains = subst (λ zs. Gains (flat_map g zs) old new) (take_all k xs past) gains

range_more : (n : ℕ) → range_with_len 1 (n + 1) ≡ range_with_len 1 n ++ (n + 1) ∷ []
range_more n =
    sym (map_same (range_with_len 1 (n + 1)))
    ∙ map-range_with_len_more (λ (x : ℕ). x) 1 n (n + 1) (omega arith)
    ∙ ap (λ xs. xs ++ (n + 1) ∷ []) (map_same (range_with_len 1 n))

pub range_goes : (g : ℕ → List AbaAxiom) (n : ℕ) (old mid new : List AxiomName)
    → Gains (flat_map g (range_with_len 1 n)) old mid → Gains (g (n + 1)) mid new
    → Gains (flat_map g (range_with_len 1 (n + 1))) old new
range_goes g n old mid new first second =
    subst (λ zs. Gains zs old new)
    (ap (λ zs. flat_map g (range_with_len 1 n) ++ zs) (sym (append-nil (g (n + 1))))
    ∙ sym (flat_map-append g (range_with_len 1 n) ((n + 1) ∷ [])) ∙ ap (flat_map g) (sym (range_more n)))
    (gains_on (flat_map g (range_with_len 1 n)) (g (n + 1)) old mid new first second)

-- ---- the rules that head an atom

pub heading_rises : (f : Aba) → IsNumberedAba f → (x : ℕ) → IsStrictlyIncreasing (heading f x)
unfolding heading
heading_rises f form x = λ k within.
    let kept = filter (λ (r : Rule). eqb r.head x) f.rules in
    let long = length-map kept number_of in
    let up = AllPairs-filter (λ (q r : Rule). q.number < r.number) (λ (r : Rule). eqb r.head x) f.rules
    (λ i j d lt inside.
    let whole = length-map f.rules number_of in
    let here = get_or-map number_of f.rules i d 0 (omega arith) in
    let there = get_or-map number_of f.rules j d 0 inside in
    let less = AllPairs-from_increasing (map number_of f.rules) form.form.numbers_rise i j 0 lt (omega arith) in
    omega arith) in
    let here = get_or-map number_of kept k no_rule 0 (omega arith) in
    let next = get_or-map number_of kept (k + 1) no_rule 0 (omega arith) in
    let less = up k (k + 1) no_rule (omega arith) (omega arith) in
    omega arith

pub heading_are : (f : Aba) (x n : ℕ) → Contains (heading f x) n
    ↔ ((r : Rule) × Contains f.rules r × (r.head ≡ x) × (r.number ≡ n))
unfolding heading
heading_are f x n = (
  λ c. let from = image_from number_of (filter (λ (r : Rule). eqb r.head x) f.rules) n c in
      let kept = (Contains-filter (λ (r : Rule). eqb r.head x) f.rules from.0).0 from.1 in
      (from.0, kept.0, eqb-true from.0.head x kept.1, from.2),
  λ w. subst (λ m. Contains (map number_of (filter (λ (r : Rule). eqb r.head x) f.rules)) m) w.3
      (image_there number_of (filter (λ (r : Rule). eqb r.head x) f.rules) w.0
      ((Contains-filter (λ (r : Rule). eqb r.head x) f.rules w.0).1 (w.1, eq-eqb w.0.head x w.2))),
)

-- the number of the rule that stands beside each pair
abbrev pub numbers_at : List ℕ → List (ℕ × ℕ) → List ℕ
numbers_at numbers pairs = map (λ p. get_or numbers p.1 0) pairs

pub heading_is : (f : Aba) → IsNumberedAba f → (x : ℕ) (numbers : List ℕ) (headed : List (ℕ × ℕ))
    → numbers ≡ map number_of f.rules → PairsRise headed
    → ((h k : ℕ) → Contains headed (h, k) ↔ ((h ≡ x) × (k < length f.rules) × ((rule_at f.rules k).head ≡ x)))
    → numbers_at numbers headed ≡ heading f x
heading_is f form x numbers headed are rise rules =
    same_rising (numbers_at numbers headed) (heading f x) up (heading_rises f form x) (λ n. (
      λ c. let from = image_from at_pair headed n c in
          let known = (rules from.0.0 from.0.1).0 from.1 in
          (heading_are f x n).1 (
            rule_at f.rules from.0.1,
            Contains-get_or f.rules from.0.1 no_rule known.1,
            known.2,
            sym (read_number f numbers from.0.1 are known.1) ∙ from.2,
          ),
      λ c. let w = (heading_are f x n).0 c in
          let there = w.1 in
          let rule : rule_at f.rules there.0 ≡ w.0 = get_or_default f.rules there.0 no_rule w.0 there.1 ∙ there.2 in
          subst (λ m. Contains (numbers_at numbers headed) m)
          (read_number f numbers there.0 are there.1 ∙ ap number_of rule ∙ w.3)
          (image_there at_pair headed (x, there.0)
          ((rules x there.0).1 (refl, there.1, ap (λ (r : Rule). r.head) rule ∙ w.2))),
    ))
  where
    at_pair : ℕ × ℕ → ℕ
    at_pair p = get_or numbers p.1 0

    up : IsStrictlyIncreasing (map at_pair headed)
    up = λ k within.
        let long = length-map headed at_pair in
        let here = get_or-map at_pair headed k (0, 0) 0 (omega arith) in
        let next = get_or-map at_pair headed (k + 1) (0, 0) 0 (omega arith) in
        let p = get_or headed k (0, 0) in
        let q = get_or headed (k + 1) (0, 0) in
        let left = (rules p.0 p.1).0 (Contains-get_or headed k (0, 0) (omega arith)) in
        let right = (rules q.0 q.1).0 (Contains-get_or headed (k + 1) (0, 0) (omega arith)) in
        let whole = length-map f.rules number_of in
        let same = ap length are in
        let below : p.1 < q.1 =
        ⊎_elim (λ less. absurd (omega (arith, less, left.0, right.0))) (λ tie. tie.1)
        (rise.order k (k + 1) (0, 0) (omega arith) (omega arith)) in
        let inside = right.1 in
        let less = AllPairs-from_increasing numbers (subst IsStrictlyIncreasing (sym are) form.form.numbers_rise)
        p.1 q.1 0 below (omega arith) in
        omega arith
