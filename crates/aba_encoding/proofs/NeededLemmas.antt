-- The listed axioms are the needed ones, and they are axioms.
use Rattle.std.proofs.Common.{◌≡◌, ◌≤◌, ◌<◌, ◌-◌, ℕ, List, [], ◌∷◌, ◌++◌, map, arith, ap, refl, sym, ⊎_elim, subst}
use Rattle.std.specs.Prelude.{Contains, ◌↔◌}
use Rattle.std.specs.List.{AllByRecursion, flat_map, range_with_len}
use Rattle.std.proofs.lemmas.Bool.{cases_eq}
use Rattle.std.proofs.lemmas.List.FromFn.{get_or-range_with_len, length-range_with_len}
use Rattle.std.proofs.lemmas.List.Elements.{All-contains, All-from_recursion, Contains-append_left, Contains-append_right, Contains-append_cases}
use Rattle.std.proofs.lemmas.List.Kept.{AllPairs-from_increasing}
use Rattle.lists.proofs.Membership.{Contains-cons_cases}
use Rattle.semantics.specs.Arguments.{IsArgument}
use Rattle.semantics.specs.AbaFrameworks.{Aba, IsAtom, IsNumberedAba}
use Rattle.semantics.specs.Rules.{Rule}
use Rattle.meaning_atoms.specs.declared.atom.Closure.{Closure}
use Rattle.meaning_atoms.specs.declared.atom.Closure.TheVariants.{Own, Rest}
use Rattle.meaning_atoms.specs.declared.aba_axiom.AbaAxiom.{AbaAxiom}
use Rattle.meaning_atoms.specs.declared.aba_axiom.AbaAxiom.TheVariants.{B1, B2, B3, B4, B5, B6, B7, B8, B9, B9Con, B10, B11, B12, B13, B14, B15, B16, B17, B18, B19}
use Rattle.meaning_atoms.specs.declared.axiom.AxiomName.{AxiomName}
use Rattle.meaning_atoms.specs.declared.axiom.AxiomName.TheVariants.{Af as OfAf, Aba as OfAba}
use Rattle.meaning_atoms.specs.AbaAxioms.{IsAbaAxiom}
use Rattle.meaning_atoms.specs.AbaReadings.{HasContrary, HasRule}
use Rattle.meaning_atoms.specs.AxiomNames.{IsAxiomName}
use Rattle.semantics.specs.Frameworks.{aba}
use Rattle.oracle_face.specs.AbaNeeded.{Heads, IsNeededOfAba}
use Rattle.oracle_face.specs.Needed.{IsNeeded}
use Rattle.aba_encoding.specs.Listing.{assumption_axioms, atom_axioms, body_end, body_step, common_axioms, contrary_end, contrary_step, head_end, head_step, heading, listed_axioms, rule_axioms, walk_along}
use Rattle.oracle_face.specs.Walks.{IsWalkStep, IsWalkEnd}
use Rattle.edit_rules.specs.AbaEdits.{contraries_of}
use Rattle.aba_encoding.proofs.ContraryLemmas.{contraries_ahead, contrary_low, contrary_under}
use Rattle.aba_encoding.proofs.ListingLemmas.{heading_are, heading_rises}
use Rattle.aba_encoding.proofs.WalkLemmas.{AreAhead, all_ahead, along_from, end_there, start_high, start_position, step_there, step_to}
use Rattle.lists.proofs.Images.{image_there, image_from, in_flat, flat_from}

-- ---- lists of lists

-- what holds of each item that is written out holds of each member
pub listed : (P : AbaAxiom → Type 0) (names : List AbaAxiom) → AllByRecursion P names → (name : AbaAxiom)
    → Contains names name → P name
listed P names h name c = All-contains P names name (All-from_recursion P names h) c

-- of two that stand side by side, that of a closure
pub by_closure : (make : Closure → AbaAxiom) (front back : List AbaAxiom) (k : Closure)
    → Contains (front ++ make Own ∷ make Rest ∷ back) (make k)
by_closure make front back Own =
    Contains-append_right front (make Own ∷ make Rest ∷ back) (make Own) (0, omega arith, refl)
by_closure make front back Rest =
    Contains-append_right front (make Own ∷ make Rest ∷ back) (make Rest) (1, omega arith, refl)

pub step_of : (a i j : ℕ) (k : Closure) → Contains (contrary_step a i j) (B18 k a i j)
step_of a i j k = by_closure (λ k'. B18 k' a i j) (B9Con a j ∷ B12 a j ∷ B13 a j ∷ []) [] k

module _ (f : Aba) (form : IsNumberedAba f) where
  -- ---- the bodies of rules

  pub body_low : (r : Rule) → Contains f.rules r → (y : ℕ) → Contains r.body y → 1 ≤ y
  body_low r there y c = ((form.form.rules_are r there).body y c).low

  pub body_under : (r : Rule) → Contains f.rules r → (y : ℕ) → Contains r.body y → y < 1000001
  body_under r there y c =
      let high = ((form.form.rules_are r there).body y c).high in
      let atoms = form.atoms in
      omega arith

  pub body_ahead : (r : Rule) (there : Contains f.rules r)
      → AreAhead (Contains r.body) (body_low r there) (body_under r there) 1 r.body
  body_ahead r there = all_ahead (Contains r.body) (body_low r there) (body_under r there) r.body (λ y c. c) (λ y c. c)
      (AllPairs-from_increasing r.body (form.form.rules_are r there).body_rises)

  -- ---- the rules that head an atom

  pub heads_low : (x n : ℕ) → Heads f x n → 1 ≤ n
  heads_low x n h =
      let low = (form.form.rules_are h.rule h.there).low in let e = h.numbered in omega arith

  pub heads_under : (x n : ℕ) → Heads f x n → n < 1000001
  heads_under x n h =
      let given = (form.form.rules_are h.rule h.there).given in
      let next = form.rules in
      let e = h.numbered in
      omega arith

  heads_from : (x n : ℕ) → Contains (heading f x) n → Heads f x n
  heads_from x n c =
      let w = (heading_are f x n).0 c in
      record { rule = w.0; there = w.1; numbered = w.3; says = w.2 }

  heads_there : (x n : ℕ) → Heads f x n → Contains (heading f x) n
  heads_there x n h = (heading_are f x n).1 (h.rule, h.there, h.says, h.numbered)

  pub heads_ahead : (x : ℕ) → AreAhead (Heads f x) (heads_low x) (heads_under x) 1 (heading f x)
  heads_ahead x = all_ahead (Heads f x) (heads_low x) (heads_under x) (heading f x) (heads_from x) (heads_there x)
      (AllPairs-from_increasing (heading f x) (heading_rises f form x))

  -- ---- what is listed is needed

  common_from : (name : AbaAxiom) → Contains common_axioms name → IsNeededOfAba f name
  common_from = listed (IsNeededOfAba f) common_axioms (
    tt,
    (
      tt,
      (
        (omega arith, omega arith),
        (
          (omega arith, omega arith),
          ((omega arith, omega arith), tt),
        ),
      ),
    ),
  )

  abbrev pub own_axioms : ℕ → List AbaAxiom
  own_axioms a = B2 a ∷ B3 a ∷ B14 a ∷ B15 a ∷ []

  abbrev pub contrary_walk : ℕ → List AbaAxiom
  contrary_walk a = walk_along (contrary_step a) (contrary_end a) 1 (contraries_of f.contraries a)

  assumption_from : (a : ℕ) → Contains f.assumptions a → (name : AbaAxiom) → Contains (assumption_axioms f a) name
      → IsNeededOfAba f name
  assumption_from a is name c =
      ⊎_elim (listed (IsNeededOfAba f) (own_axioms a) (is, (is, (is, (is, tt)))) name)
      (λ later. ⊎_elim
      (λ on. listed (IsNeededOfAba f) (contrary_step a on.from on.stop)
      (on.is.stop, (on.is.stop, (on.is.stop, ((is, on.is), ((is, on.is), tt))))) name on.item)
      (λ at. listed (IsNeededOfAba f) (contrary_end a at.from) ((is, at.is), ((is, at.is), tt)) name at.item)
      (along_from (HasContrary f a) (contrary_low f form a) (contrary_under f form a) (contrary_step a) (contrary_end a)
      1 (contraries_of f.contraries a) (contraries_ahead f form a) name later))
      (Contains-append_cases (own_axioms a) (contrary_walk a) name c)

  has_rule : (P : Rule → Type 0) (r : Rule) → Contains f.rules r → P r → HasRule f r.number P
  has_rule P r there h = record { rule = r; there = there; numbered = refl; says = h }

  rule_from : (r : Rule) → Contains f.rules r → (name : AbaAxiom) → Contains (rule_axioms r) name
      → IsNeededOfAba f name
  rule_from r there name c =
      let step = body_step r.number in
      let end = body_end r.number in
      let walk = walk_along step end 1 r.body in
      let head = has_rule (λ q. q.head ≡ r.head) r there refl in
      ⊎_elim (λ e. subst (IsNeededOfAba f) e head)
      (λ c'. ⊎_elim (λ e. subst (IsNeededOfAba f) e head)
      (λ later. ⊎_elim
      (λ on. listed (IsNeededOfAba f) (step on.from on.stop) (
        has_rule (λ q. Contains q.body on.stop) r there on.is.stop,
        (
          has_rule (λ q. Contains q.body on.stop) r there on.is.stop,
          (
            has_rule (λ q. IsWalkStep (Contains q.body) on.from on.stop) r there on.is,
            (has_rule (λ q. IsWalkStep (Contains q.body) on.from on.stop) r there on.is, tt),
          ),
        ),
      ) name on.item)
      (λ at. listed (IsNeededOfAba f) (end at.from) (
        has_rule (λ q. IsWalkEnd (Contains q.body) at.from) r there at.is,
        (has_rule (λ q. IsWalkEnd (Contains q.body) at.from) r there at.is, tt),
      ) name at.item)
      (along_from (Contains r.body) (body_low r there) (body_under r there) step end 1 r.body (body_ahead r there)
      name later))
      (Contains-cons_cases (B5 Rest r.number r.head) walk name c'))
      (Contains-cons_cases (B5 Own r.number r.head) (B5 Rest r.number r.head ∷ walk) name c)

  atom_from : (x : ℕ) → IsAtom f.atoms x → (name : AbaAxiom) → Contains (atom_axioms f x) name → IsNeededOfAba f name
  atom_from x atom name c =
      let walk = walk_along (head_step x) (head_end x) 1 (heading f x) in
      ⊎_elim (λ e. subst (IsNeededOfAba f) e atom)
      (λ c'. ⊎_elim (λ e. subst (IsNeededOfAba f) e atom)
      (λ c''. ⊎_elim (λ e. subst (IsNeededOfAba f) e atom)
      (λ later. ⊎_elim
      (λ on. listed (IsNeededOfAba f) (head_step x on.from on.stop) ((atom, on.is), ((atom, on.is), tt)) name on.item)
      (λ at. listed (IsNeededOfAba f) (head_end x at.from) ((atom, at.is), ((atom, at.is), tt)) name at.item)
      (along_from (Heads f x) (heads_low x) (heads_under x) (head_step x) (head_end x) 1 (heading f x) (heads_ahead x)
      name later))
      (Contains-cons_cases (B9 Rest x) walk name c''))
      (Contains-cons_cases (B9 Own x) (B9 Rest x ∷ walk) name c'))
      (Contains-cons_cases (B1 x) (B9 Own x ∷ B9 Rest x ∷ walk) name c)

  in_range : (x : ℕ) → Contains (range_with_len 1 f.atoms) x → IsAtom f.atoms x
  in_range x c =
      let long = length-range_with_len 1 f.atoms in
      let lt = c.1 in
      let at = get_or-range_with_len 1 f.atoms c.0 x (omega arith) in
      let e = c.2 in
      record { low = omega arith; high = omega arith }

  range_there : (x : ℕ) → IsAtom f.atoms x → Contains (range_with_len 1 f.atoms) x
  range_there x atom =
      let low = atom.low in
      let high = atom.high in
      let long = length-range_with_len 1 f.atoms in
      let at = get_or-range_with_len 1 f.atoms (x - 1) x (omega arith) in
      (x - 1, omega arith, omega arith)

  pub listed_from : (name : AbaAxiom) → Contains (listed_axioms f) name → IsNeededOfAba f name
  listed_from name c =
      let assumptions = flat_map (assumption_axioms f) f.assumptions in
      let rules = flat_map rule_axioms f.rules in
      let atoms = flat_map (atom_axioms f) (range_with_len 1 f.atoms) in
      ⊎_elim (common_from name)
      (λ c'. ⊎_elim
      (λ d. let w = flat_from (assumption_axioms f) f.assumptions name d in assumption_from w.0 w.1 name w.2)
      (λ c''. ⊎_elim
      (λ d. let w = flat_from rule_axioms f.rules name d in rule_from w.0 w.1 name w.2)
      (λ d. let w = flat_from (atom_axioms f) (range_with_len 1 f.atoms) name d in
      atom_from w.0 (in_range w.0 w.1) name w.2)
      (Contains-append_cases rules atoms name c''))
      (Contains-append_cases assumptions (rules ++ atoms) name c'))
      (Contains-append_cases common_axioms (assumptions ++ (rules ++ atoms)) name c)

  -- ---- what is needed is listed

  in_common : (name : AbaAxiom) → Contains common_axioms name → Contains (listed_axioms f) name
  in_common name c = Contains-append_left common_axioms _ name c

  in_assumption : (a : ℕ) → Contains f.assumptions a → (name : AbaAxiom) → Contains (assumption_axioms f a) name
      → Contains (listed_axioms f) name
  in_assumption a is name d =
      Contains-append_right common_axioms _ name
      (Contains-append_left (flat_map (assumption_axioms f) f.assumptions) _ name
      (in_flat (assumption_axioms f) f.assumptions a name is d))

  in_rule : (r : Rule) → Contains f.rules r → (name : AbaAxiom) → Contains (rule_axioms r) name
      → Contains (listed_axioms f) name
  in_rule r there name d =
      Contains-append_right common_axioms _ name
      (Contains-append_right (flat_map (assumption_axioms f) f.assumptions) _ name
      (Contains-append_left (flat_map rule_axioms f.rules) _ name (in_flat rule_axioms f.rules r name there d)))

  in_atom : (x : ℕ) → IsAtom f.atoms x → (name : AbaAxiom) → Contains (atom_axioms f x) name
      → Contains (listed_axioms f) name
  in_atom x atom name d =
      Contains-append_right common_axioms _ name
      (Contains-append_right (flat_map (assumption_axioms f) f.assumptions) _ name
      (Contains-append_right (flat_map rule_axioms f.rules) _ name
      (in_flat (atom_axioms f) (range_with_len 1 f.atoms) x name (range_there x atom) d)))

  -- what is listed for an assumption: at a step of the walk along its contraries, at the step to one, and at the end
  pub at_contrary_step : (a i j : ℕ) → IsWalkStep (HasContrary f a) i j → (name : AbaAxiom)
      → Contains (contrary_step a i j) name → Contains (assumption_axioms f a) name
  at_contrary_step a i j is name c =
      Contains-append_right (own_axioms a) (contrary_walk a) name
      (step_there (HasContrary f a) (contrary_low f form a) (contrary_under f form a) (contrary_step a) (contrary_end a)
      1 (contraries_of f.contraries a) (contraries_ahead f form a) i j is (contrary_low f form a j is.stop) name c)

  pub at_contrary : (a c : ℕ) → HasContrary f a c → (name : AbaAxiom)
      → ((i : ℕ) → Contains (contrary_step a i c) name) → Contains (assumption_axioms f a) name
  at_contrary a c con name there =
      let w = step_to (HasContrary f a) (contrary_low f form a) (contrary_under f form a) 1
      (contraries_of f.contraries a) (contraries_ahead f form a) c con (contrary_low f form a c con) in
      at_contrary_step a w.0 c w.1 name (there w.0)

  pub at_contrary_end : (a i : ℕ) → IsWalkEnd (HasContrary f a) i → (name : AbaAxiom)
      → Contains (contrary_end a i) name → Contains (assumption_axioms f a) name
  at_contrary_end a i is name c =
      Contains-append_right (own_axioms a) (contrary_walk a) name
      (end_there (HasContrary f a) (contrary_low f form a) (contrary_under f form a) (contrary_step a) (contrary_end a)
      1 (contraries_of f.contraries a) (contraries_ahead f form a) i is name c)

  in_contrary : (a c : ℕ) → HasContrary f a c → (name : AbaAxiom)
      → ((i : ℕ) → Contains (contrary_step a i c) name) → Contains (listed_axioms f) name
  in_contrary a c con name there =
      in_assumption a (form.form.contraries_are a c con).0 name (at_contrary a c con name there)

  in_body_step : (r : Rule) → Contains f.rules r → (i j : ℕ) → IsWalkStep (Contains r.body) i j → (name : AbaAxiom)
      → Contains (body_step r.number i j) name → Contains (listed_axioms f) name
  in_body_step r there i j is name c =
      let step = body_step r.number in
      let end = body_end r.number in
      let walk = walk_along step end 1 r.body in
      let low = body_low r there j is.stop in
      in_rule r there name
      (Contains-append_right (B5 Own r.number r.head ∷ B5 Rest r.number r.head ∷ []) walk name
      (step_there (Contains r.body) (body_low r there) (body_under r there) step end 1 r.body (body_ahead r there) i j
      is low name c))

  in_head_step : (x : ℕ) → IsAtom f.atoms x → (i j : ℕ) → IsWalkStep (Heads f x) i j → (name : AbaAxiom)
      → Contains (head_step x i j) name → Contains (listed_axioms f) name
  in_head_step x atom i j is name c =
      let walk = walk_along (head_step x) (head_end x) 1 (heading f x) in
      in_atom x atom name
      (Contains-append_right (B1 x ∷ B9 Own x ∷ B9 Rest x ∷ []) walk name
      (step_there (Heads f x) (heads_low x) (heads_under x) (head_step x) (head_end x) 1 (heading f x) (heads_ahead x)
      i j is (heads_low x j is.stop) name c))

  -- what holds of the rule of a number
  of_rule : (P : Rule → Type 0) (make : ℕ → AbaAxiom) (r : ℕ) → HasRule f r P
      → ((q : Rule) → Contains f.rules q → P q → Contains (listed_axioms f) (make q.number))
      → Contains (listed_axioms f) (make r)
  of_rule P make r h by =
      subst (λ n. Contains (listed_axioms f) (make n)) h.numbered (by h.rule h.there h.says)

  pub listed_to : (name : AbaAxiom) → IsNeededOfAba f name → Contains (listed_axioms f) name
  listed_to (B1 a) h = in_atom a h (B1 a) (0, omega arith, refl)
  listed_to (B2 a) h = in_assumption a h (B2 a) (0, omega arith, refl)
  listed_to (B3 a) h = in_assumption a h (B3 a) (1, omega arith, refl)
  listed_to (B4 k) h = in_common (B4 k) (by_closure B4 [] (B16 1 ∷ B16 2 ∷ B16 3 ∷ []) k)
  listed_to (B5 k r x) h = of_rule (λ q. q.head ≡ x) (λ n. B5 k n x) r h (λ q there is.
      subst (λ y. Contains (listed_axioms f) (B5 k q.number y)) is
      (in_rule q there (B5 k q.number q.head)
      (by_closure (λ k'. B5 k' q.number q.head) [] (walk_along (body_step q.number) (body_end q.number) 1 q.body) k)))
  listed_to (B6 k r x) h = of_rule (λ q. Contains q.body x) (λ n. B6 k n x) r h (λ q there c.
      let w = step_to (Contains q.body) (body_low q there) (body_under q there) 1 q.body (body_ahead q there) x c
      (body_low q there x c) in
      in_body_step q there w.0 x w.1 (B6 k q.number x)
      (by_closure (λ k'. B6 k' q.number x) [] (B7 Own q.number w.0 x ∷ B7 Rest q.number w.0 x ∷ []) k))
  listed_to (B7 k r i j) h = of_rule (λ q. IsWalkStep (Contains q.body) i j) (λ n. B7 k n i j) r h (λ q there is.
      in_body_step q there i j is (B7 k q.number i j)
      (by_closure (λ k'. B7 k' q.number i j) (B6 Own q.number j ∷ B6 Rest q.number j ∷ []) [] k))
  listed_to (B8 k r i) h = of_rule (λ q. IsWalkEnd (Contains q.body) i) (λ n. B8 k n i) r h (λ q there is.
      let step = body_step q.number in
      let end = body_end q.number in
      in_rule q there (B8 k q.number i)
      (Contains-append_right (B5 Own q.number q.head ∷ B5 Rest q.number q.head ∷ []) (walk_along step end 1 q.body)
      (B8 k q.number i)
      (end_there (Contains q.body) (body_low q there) (body_under q there) step end 1 q.body (body_ahead q there) i is
      (B8 k q.number i) (by_closure (λ k'. B8 k' q.number i) [] [] k))))
  listed_to (B9 k x) h =
      in_atom x h (B9 k x)
      (by_closure (λ k'. B9 k' x) (B1 x ∷ []) (walk_along (head_step x) (head_end x) 1 (heading f x)) k)
  listed_to (B9Con a c) h = in_contrary a c h (B9Con a c) (λ i. (0, omega arith, refl))
  listed_to (B10 k x i j) h =
      in_head_step x h.0 i j h.1 (B10 k x i j) (by_closure (λ k'. B10 k' x i j) [] [] k)
  listed_to (B11 k x i) h =
      in_atom x h.0 (B11 k x i)
      (Contains-append_right (B1 x ∷ B9 Own x ∷ B9 Rest x ∷ [])
      (walk_along (head_step x) (head_end x) 1 (heading f x)) (B11 k x i)
      (end_there (Heads f x) (heads_low x) (heads_under x) (head_step x) (head_end x) 1 (heading f x) (heads_ahead x)
      i h.1 (B11 k x i) (by_closure (λ k'. B11 k' x i) [] [] k)))
  listed_to (B12 a c) h = in_contrary a c h (B12 a c) (λ i. (1, omega arith, refl))
  listed_to (B13 a c) h = in_contrary a c h (B13 a c) (λ i. (2, omega arith, refl))
  listed_to (B14 a) h = in_assumption a h (B14 a) (2, omega arith, refl)
  listed_to (B15 a) h = in_assumption a h (B15 a) (3, omega arith, refl)
  listed_to (B16 part) h =
      ⊎_elim (λ (e : part ≡ 1). in_common (B16 part) (2, omega arith, ap B16 (sym e)))
      (λ no. ⊎_elim (λ (e : part ≡ 2). in_common (B16 part) (3, omega arith, ap B16 (sym e)))
      (λ neither.
      let low = h.0 in
      let high = h.1 in
      let e : part ≡ 3 = omega arith in in_common (B16 part) (4, omega arith, ap B16 (sym e)))
      (cases_eq part 2)) (cases_eq part 1)
  listed_to (B17 k x rows) h = absurd h
  listed_to (B18 k a i j) h =
      in_assumption a h.0 (B18 k a i j) (at_contrary_step a i j h.1 (B18 k a i j) (step_of a i j k))
  listed_to (B19 k a i) h =
      in_assumption a h.0 (B19 k a i)
      (at_contrary_end a i h.1 (B19 k a i) (by_closure (λ k'. B19 k' a i) [] [] k))

  -- ---- what is needed is an axiom

  atom_argument : (x : ℕ) → IsAtom f.atoms x → IsArgument x
  atom_argument x atom =
      let high = atom.high in let atoms = form.atoms in record { low = atom.low; high = omega arith }

  number_argument : (r : Rule) → Contains f.rules r → IsArgument r.number
  number_argument r there =
      let rule = form.form.rules_are r there in
      let given = rule.given in
      let next = form.rules in
      record { low = rule.low; high = omega arith }

  assumption_argument : (a : ℕ) → Contains f.assumptions a → IsArgument a
  assumption_argument a is = atom_argument a (form.form.assumptions_are a is)

  contrary_fits : (a c : ℕ) → HasContrary f a c → IsAbaAxiom (B12 a c)
  contrary_fits a c con =
      let under = contrary_under f form a c con in (
        assumption_argument a (form.form.contraries_are a c con).0,
        record { high = omega arith },
      )

  at_number : (P : Rule → Type 0) (r : ℕ) → HasRule f r P → IsArgument r
  at_number P r h = subst IsArgument h.numbered (number_argument h.rule h.there)

  pub needed_fits : (name : AbaAxiom) → IsNeededOfAba f name → IsAbaAxiom name
  needed_fits (B1 a) h = atom_argument a h
  needed_fits (B2 a) h = assumption_argument a h
  needed_fits (B3 a) h = assumption_argument a h
  needed_fits (B4 k) h = tt
  needed_fits (B5 k r x) h = (
    at_number (λ q. q.head ≡ x) r h,
    subst IsArgument h.says (atom_argument h.rule.head (form.form.rules_are h.rule h.there).head),
  )
  needed_fits (B6 k r x) h = (
    at_number (λ q. Contains q.body x) r h,
    atom_argument x ((form.form.rules_are h.rule h.there).body x h.says),
  )
  needed_fits (B7 k r i j) h = record {
    argument = at_number (λ q. IsWalkStep (Contains q.body) i j) r h;
    from = start_position (Contains h.rule.body) (body_low h.rule h.there) (body_under h.rule h.there) i h.says.start;
    order = h.says.order;
    before_end = body_under h.rule h.there j h.says.stop;
  }
  needed_fits (B8 k r i) h = (
    at_number (λ q. IsWalkEnd (Contains q.body) i) r h,
    record {
      low = start_position (Contains h.rule.body) (body_low h.rule h.there) (body_under h.rule h.there) i h.says.start;
      high = start_high (Contains h.rule.body) (body_low h.rule h.there) (body_under h.rule h.there) i h.says.start;
    },
  )
  needed_fits (B9 k x) h = atom_argument x h
  needed_fits (B9Con a c) h = contrary_fits a c h
  needed_fits (B10 k x i j) h = record {
    argument = atom_argument x h.0;
    from = start_position (Heads f x) (heads_low x) (heads_under x) i h.1.start;
    order = h.1.order;
    before_end = heads_under x j h.1.stop;
  }
  needed_fits (B11 k x i) h = (
    atom_argument x h.0,
    record {
      low = start_position (Heads f x) (heads_low x) (heads_under x) i h.1.start;
      high = start_high (Heads f x) (heads_low x) (heads_under x) i h.1.start;
    },
  )
  needed_fits (B12 a c) h = contrary_fits a c h
  needed_fits (B13 a c) h = contrary_fits a c h
  needed_fits (B14 a) h = assumption_argument a h
  needed_fits (B15 a) h = assumption_argument a h
  needed_fits (B16 part) h = h
  needed_fits (B17 k x rows) h = absurd h
  needed_fits (B18 k a i j) h = record {
    argument = assumption_argument a h.0;
    from = start_position (HasContrary f a) (contrary_low f form a) (contrary_under f form a) i h.1.start;
    order = h.1.order;
    before_end = contrary_under f form a j h.1.stop;
  }
  needed_fits (B19 k a i) h = (
    assumption_argument a h.0,
    record {
      low = start_position (HasContrary f a) (contrary_low f form a) (contrary_under f form a) i h.1.start;
      high = start_high (HasContrary f a) (contrary_low f form a) (contrary_under f form a) i h.1.start;
    },
  )

  pub needed_is_axiom : (name : AxiomName) → IsNeeded (aba f) name → IsAxiomName name
  needed_is_axiom (OfAba name) h = needed_fits name h
  needed_is_axiom (OfAf name) h = absurd h

  -- ---- as names of either kind

  pub members_are : (name : AxiomName) → Contains (map OfAba (listed_axioms f)) name ↔ IsNeeded (aba f) name
  members_are name = (from name, to name)
    where
      from : (name : AxiomName) → Contains (map OfAba (listed_axioms f)) name → IsNeeded (aba f) name
      from name c =
          let w = image_from OfAba (listed_axioms f) name c in
          subst (IsNeeded (aba f)) w.2 (listed_from w.0 w.1)

      to : (name : AxiomName) → IsNeeded (aba f) name → Contains (map OfAba (listed_axioms f)) name
      to (OfAba name) h = image_there OfAba (listed_axioms f) name (listed_to name h)
      to (OfAf name) h = absurd h
