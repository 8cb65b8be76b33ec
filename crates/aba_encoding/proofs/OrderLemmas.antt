-- No axiom is listed twice: in their order the listed axioms have rising ranks.
use Rattle.std.proofs.Common.{◌≢◌, ◌≤◌, ◌<◌, ◌+◌, ◌*◌, ℕ, List, [], ◌∷◌, ◌++◌, map, arith, ap, refl, ⊎_elim}
use Rattle.std.specs.Prelude.{Contains, AllPairs}
use Rattle.std.specs.List.{flat_map, range_with_len}
use Rattle.std.proofs.lemmas.List.FromFn.{get_or-range_with_len, length-range_with_len}
use Rattle.std.proofs.lemmas.List.Kept.{AllPairs-cons, AllPairs-from_increasing}
use Rattle.lists.proofs.Membership.{Contains-nil, Contains-head, Contains-tail, Contains-cons_cases}
use Rattle.semantics.specs.AbaFrameworks.{Aba, IsNumberedAba}
use Rattle.semantics.specs.Rules.{Rule}
use Rattle.meaning_atoms.specs.declared.atom.Closure.{Closure}
use Rattle.meaning_atoms.specs.declared.atom.Closure.TheVariants.{Own, Rest}
use Rattle.meaning_atoms.specs.declared.aba_axiom.AbaAxiom.{AbaAxiom}
use Rattle.meaning_atoms.specs.declared.aba_axiom.AbaAxiom.TheVariants.{B1, B2, B3, B4, B5, B6, B7, B8, B9, B9Con, B10, B11, B12, B13, B14, B15, B16, B17, B18, B19}
use Rattle.meaning_atoms.specs.declared.axiom.AxiomName.{AxiomName}
use Rattle.meaning_atoms.specs.declared.axiom.AxiomName.TheVariants.{Af as OfAf, Aba as OfAba}
use Rattle.af_encoding.proofs.EnumerationLemmas.{all_of_members, pairs_tail}
use Rattle.aba_encoding.specs.Listing.{assumption_axioms, atom_axioms, body_end, body_step, common_axioms, contrary_end, contrary_step, head_end, head_step, heading, listed_axioms, rule_axioms, walk_along}
use Rattle.edit_rules.specs.AbaEdits.{contraries_of}
use Rattle.edit_rules.proofs.ContraryLists.{contraries_of_members}
use Rattle.aba_encoding.proofs.ContraryLemmas.{contraries_rise, contrary_low, contrary_under}
use Rattle.aba_encoding.proofs.ListingLemmas.{heading_are, heading_rises}
use Rattle.aba_encoding.proofs.WalkLemmas.{later_more}
use Rattle.lists.proofs.RisingLists.{keys_rise}

-- ---- lists whose ranks rise from one number to below another

module _ {X : Type 0} (rank : X → ℕ) where
  abbrev pub Between : ℕ → ℕ → List X → Type 0
  Between lo hi [] = lo ≤ hi
  Between lo hi (x ∷ xs) = (lo ≤ rank x) × Between (rank x + 1) hi xs

  lower : (lo mid hi : ℕ) (xs : List X) → lo ≤ mid → Between mid hi xs → Between lo hi xs
  lower lo mid hi [] le h = let high : mid ≤ hi = h in omega arith
  lower lo mid hi (x ∷ xs) le h = (let low : mid ≤ rank x = h.0 in omega arith, h.1)

  pub both : (lo mid hi : ℕ) (xs ys : List X) → Between lo mid xs → Between mid hi ys → Between lo hi (xs ++ ys)
  both lo mid hi [] ys left right = lower lo mid hi ys left right
  both lo mid hi (x ∷ xs) ys left right = (left.0, both (rank x + 1) mid hi xs ys left.1 right)

  above : (lo hi : ℕ) (xs : List X) → Between lo hi xs → (y : X) → Contains xs y → lo ≤ rank y
  above lo hi [] h y c = absurd (Contains-nil y c)
  above lo hi (x ∷ xs) h y c =
      let low : lo ≤ rank x = h.0 in
      ⊎_elim (λ e. let same = ap rank e in omega arith)
      (λ later. let more = above (rank x + 1) hi xs h.1 y later in omega arith) (Contains-cons_cases x xs y c)

  pub between_once : (lo hi : ℕ) (xs : List X) → Between lo hi xs → AllPairs (λ x y. x ≢ y) xs
  between_once lo hi [] h = λ i j d lt within. absurd (omega arith)
  between_once lo hi (x ∷ xs) h =
      AllPairs-cons (λ a b. a ≢ b) x xs
      (all_of_members (λ y. x ≢ y) xs
      (λ y c e. let more = above (rank x + 1) hi xs h.1 y c in let same = ap rank e in omega arith))
      (between_once (rank x + 1) hi xs h.1)

  -- blocks of rising keys, each in its place
  pub blocks : {A : Type 0} (key : A → ℕ) (g : A → List X) (place top : ℕ → ℕ)
      → ((j k : ℕ) → j < k → top j ≤ place k) → (lo hi : ℕ) (ws : List A) → AllPairs (λ a b. key a < key b) ws
      → lo ≤ hi → ((a : A) → Contains ws a → (lo ≤ place (key a)) × (top (key a) ≤ hi))
      → ((a : A) → Contains ws a → Between (place (key a)) (top (key a)) (g a)) → Between lo hi (flat_map g ws)
  blocks key g place top order lo hi [] up le ends each = le
  blocks key g place top order lo hi (a ∷ ws) up le ends each =
      let here = Contains-head a ws a refl in
      both lo (top (key a)) hi (g a) (flat_map g ws)
      (lower lo (place (key a)) (top (key a)) (g a) (ends a here).0 (each a here))
      (blocks key g place top order (top (key a)) hi ws (pairs_tail (λ b c. key b < key c) a ws up) (ends a here).1
      (λ b c. (order (key a) (key b) (later_more key a ws up b c), (ends b (Contains-tail a ws b c)).1))
      (λ b c. each b (Contains-tail a ws b c)))

  -- walks whose steps lie in the places of their stops
  pub walks : (step : ℕ → ℕ → List X) (end : ℕ → List X) (place : ℕ → ℕ)
      → ((j k : ℕ) → j ≤ k → place j ≤ place k)
      → ((i y : ℕ) → Between (place y) (place (y + 1)) (step i y)) → (hi : ℕ)
      → ((i : ℕ) → Between (place 1000001) hi (end i)) → (lo i : ℕ) (ys : List ℕ) → AllPairs (λ a b. a < b) ys
      → lo ≤ place 1000001 → ((y : ℕ) → Contains ys y → (lo ≤ place y) × (y < 1000001))
      → Between lo hi (walk_along step end i ys)
  walks step end place up each hi last lo i [] rise le ends = lower lo (place 1000001) hi (end i) le (last i)
  walks step end place up each hi last lo i (y ∷ ys) rise le ends =
      let here = ends y (Contains-head y ys y refl) in
      let under = here.1 in
      both lo (place (y + 1)) hi (step i y) (walk_along step end (y + 1) ys)
      (lower lo (place y) (place (y + 1)) (step i y) here.0 (each i y))
      (walks step end place up each hi last (place (y + 1)) (y + 1) ys (pairs_tail (λ a b. a < b) y ys rise)
      (up (y + 1) 1000001 (omega arith))
      (λ z c. (
        up (y + 1) z (let less = later_more (λ (n : ℕ). n) y ys rise z c in omega arith),
        (ends z (Contains-tail y ys z c)).1,
      )))

-- ---- ranks

abbrev side : Closure → ℕ
side Own = 0
side Rest = 1

abbrev assumption_place : ℕ → ℕ
assumption_place a = 10000000 * a

abbrev rule_place : ℕ → ℕ
rule_place r = 20000000000000 + 5000000 * r

abbrev atom_place : ℕ → ℕ
atom_place x = 30000000000000 + 5000000 * x

abbrev rank_of : AbaAxiom → ℕ
rank_of (B1 a) = atom_place a
rank_of (B2 a) = assumption_place a
rank_of (B3 a) = assumption_place a + 1
rank_of (B4 k) = side k
rank_of (B5 k r h) = rule_place r + side k
rank_of (B6 k r x) = rule_place r + 4 * x + side k
rank_of (B7 k r i j) = rule_place r + 4 * j + 2 + side k
rank_of (B8 k r i) = rule_place r + 4000004 + side k
rank_of (B9 k x) = atom_place x + 1 + side k
rank_of (B9Con a c) = assumption_place a + 8 * c
rank_of (B10 k x i j) = atom_place x + 4 * j + side k
rank_of (B11 k x i) = atom_place x + 4000004 + side k
rank_of (B12 a c) = assumption_place a + 8 * c + 1
rank_of (B13 a c) = assumption_place a + 8 * c + 2
rank_of (B14 a) = assumption_place a + 2
rank_of (B15 a) = assumption_place a + 3
rank_of (B16 part) = 1 + part
rank_of (B17 k x rows) = 0
rank_of (B18 k a i j) = assumption_place a + 8 * j + 3 + side k
rank_of (B19 k a i) = assumption_place a + 8000008 + side k

module _ (f : Aba) (form : IsNumberedAba f) where
  common_between : Between rank_of 0 10 common_axioms
  common_between = (omega arith, (omega arith, (omega arith, (omega arith, (omega arith, omega arith)))))

  assumption_between : (a : ℕ) → Between rank_of (assumption_place a) (assumption_place a + 10000000)
      (assumption_axioms f a)
  assumption_between a = (
    omega arith,
    (
      omega arith,
      (
        omega arith,
        (
          omega arith,
          walks rank_of (contrary_step a) (contrary_end a) (λ y. assumption_place a + 8 * y) (λ j k le. omega arith)
              (λ i y. (omega arith, (omega arith, (omega arith, (omega arith, (omega arith, omega arith))))))
              (assumption_place a + 10000000) (λ i. (omega arith, (omega arith, omega arith)))
              (rank_of (B15 a) + 1) 1 (contraries_of f.contraries a)
              (AllPairs-from_increasing (contraries_of f.contraries a) (contraries_rise f form a)) (omega arith)
              (λ c d.
              let con = (contraries_of_members f.contraries a c).0 d in
              let low = contrary_low f form a c con in
              let under = contrary_under f form a c con in
              (omega arith, under)),
        ),
      ),
    ),
  )

  assumptions_between : Between rank_of 10 20000000000000 (flat_map (assumption_axioms f) f.assumptions)
  assumptions_between =
      blocks rank_of (λ (a : ℕ). a) (assumption_axioms f) assumption_place (λ a. assumption_place a + 10000000)
      (λ j k lt. omega arith) 10 20000000000000 f.assumptions
      (AllPairs-from_increasing f.assumptions form.form.assumptions_rise) (omega arith)
      (λ a c. let atom = form.form.assumptions_are a c in
      let low = atom.low in
      let high = atom.high in
      let most = form.atoms in
      (omega arith, omega arith))
      (λ a c. assumption_between a)

  rule_between : (r : Rule) → Contains f.rules r
      → Between rank_of (rule_place r.number) (rule_place r.number + 5000000) (rule_axioms r)
  rule_between r there =
      let rule = form.form.rules_are r there in (
        omega arith,
        (
          omega arith,
          walks rank_of (body_step r.number) (body_end r.number) (λ y. rule_place r.number + 4 * y)
              (λ j k le. omega arith)
              (λ i y. (omega arith, (omega arith, (omega arith, (omega arith, omega arith)))))
              (rule_place r.number + 5000000) (λ i. (omega arith, (omega arith, omega arith)))
              (rank_of (B5 Rest r.number r.head) + 1) 1 r.body (AllPairs-from_increasing r.body rule.body_rises)
              (omega arith)
              (λ y c.
              let low = (rule.body y c).low in
              let high = (rule.body y c).high in
              let most = form.atoms in
              (omega arith, omega arith)),
        ),
      )

  rules_between : Between rank_of 20000000000000 30000000000000 (flat_map rule_axioms f.rules)
  rules_between =
      blocks rank_of (λ (r : Rule). r.number) rule_axioms rule_place (λ n. rule_place n + 5000000)
      (λ j k lt. omega arith) 20000000000000 30000000000000 f.rules
      (keys_rise (λ (r : Rule). r.number) f.rules form.form.numbers_rise) (omega arith)
      (λ r c. let given = (form.form.rules_are r c).given in let next = form.rules in (omega arith, omega arith))
      rule_between

  atom_between : (x : ℕ) → Between rank_of (atom_place x) (atom_place x + 5000000) (atom_axioms f x)
  atom_between x = (
    omega arith,
    (
      omega arith,
      (
        omega arith,
        walks rank_of (head_step x) (head_end x) (λ y. atom_place x + 4 * y) (λ j k le. omega arith)
            (λ i y. (omega arith, (omega arith, omega arith))) (atom_place x + 5000000)
            (λ i. (omega arith, (omega arith, omega arith))) (rank_of (B9 Rest x) + 1) 1 (heading f x)
            (AllPairs-from_increasing (heading f x) (heading_rises f form x)) (omega arith)
            (λ n c. let w = (heading_are f x n).0 c in
            let rule = form.form.rules_are w.0 w.1 in
            let low = rule.low in
            let given = rule.given in
            let next = form.rules in
            let e = w.3 in
            (omega arith, omega arith)),
      ),
    ),
  )

  range_rises : AllPairs (λ a b. a < b) (range_with_len 1 f.atoms)
  range_rises i j d lt within =
      let long = length-range_with_len 1 f.atoms in
      let here = get_or-range_with_len 1 f.atoms i d (omega arith) in
      let there = get_or-range_with_len 1 f.atoms j d (omega arith) in
      omega arith

  atoms_between : Between rank_of 30000000000000 40000000000000 (flat_map (atom_axioms f) (range_with_len 1 f.atoms))
  atoms_between =
      blocks rank_of (λ (x : ℕ). x) (atom_axioms f) atom_place (λ n. atom_place n + 5000000) (λ j k lt. omega arith)
      30000000000000 40000000000000 (range_with_len 1 f.atoms) range_rises (omega arith)
      (λ x c.
      let long = length-range_with_len 1 f.atoms in
      let lt = c.1 in
      let at = get_or-range_with_len 1 f.atoms c.0 x (omega arith) in
      let e = c.2 in
      let most = form.atoms in
      (omega arith, omega arith))
      (λ x c. atom_between x)

  all_between : Between rank_of 0 40000000000000 (listed_axioms f)
  all_between =
      let assumptions = flat_map (assumption_axioms f) f.assumptions in
      let rules = flat_map rule_axioms f.rules in
      let atoms = flat_map (atom_axioms f) (range_with_len 1 f.atoms) in
      both rank_of 0 10 40000000000000 common_axioms (assumptions ++ (rules ++ atoms)) common_between
      (both rank_of 10 20000000000000 40000000000000 assumptions (rules ++ atoms) assumptions_between
      (both rank_of 20000000000000 30000000000000 40000000000000 rules atoms rules_between atoms_between))

  -- as names of either kind
  abbrev name_rank : AxiomName → ℕ
  name_rank (OfAba name) = rank_of name
  name_rank (OfAf name) = 0

  mapped : (lo hi : ℕ) (xs : List AbaAxiom) → Between rank_of lo hi xs → Between name_rank lo hi (map OfAba xs)
  mapped lo hi [] h = h
  mapped lo hi (x ∷ xs) h = (h.0, mapped (rank_of x + 1) hi xs h.1)

  pub listed_once : AllPairs (λ x y. x ≢ y) (map OfAba (listed_axioms f))
  listed_once =
      between_once name_rank 0 40000000000000 (map OfAba (listed_axioms f))
      (mapped 0 40000000000000 (listed_axioms f) all_between)
