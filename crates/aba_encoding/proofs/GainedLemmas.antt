-- What the list of the axioms that an edit calls for gains.
use Rattle.std.proofs.Common.{Ok, Err, Result, ◌≡◌, ◌<◌, ◌+◌, ◌⊎◌, ◌↔◌, ℕ, Bool, true, false, List, [], ◌∷◌, ◌++◌, map, arith, refl, ap, sym, subst, ◌∙◌, inl, inr, ⊎_elim}
use Rattle.std.specs.Prelude.{Contains, OnOk}
use Rattle.std.specs.List.{AllByRecursion}
use Rattle.std.proofs.lemmas.Bool.{cases_eq, false≢true}
use Rattle.std.proofs.lemmas.List.Elements.{Contains-append_cases, Contains-append_left, Contains-append_right}
use Rattle.lists.specs.declared.memory.Memory.{Memory}
use Rattle.lists.proofs.Membership.{Contains-nil, Contains-cons_cases}
use Rattle.semantics.specs.AbaFrameworks.{Aba, IsNumberedAba}
use Rattle.semantics.specs.Rules.{Rule}
use Rattle.semantics.specs.Frameworks.{aba}
use Rattle.meaning_atoms.specs.declared.atom.Closure.{Closure}
use Rattle.meaning_atoms.specs.declared.atom.Closure.TheVariants.{Own, Rest}
use Rattle.meaning_atoms.specs.declared.aba_axiom.AbaAxiom.{AbaAxiom}
use Rattle.meaning_atoms.specs.declared.aba_axiom.AbaAxiom.TheVariants.{B2, B3, B5, B6, B7, B8, B9Con, B10, B11, B12, B13, B14, B15, B18, B19}
use Rattle.meaning_atoms.specs.declared.axiom.AxiomName.{AxiomName}
use Rattle.meaning_atoms.specs.declared.axiom.AxiomName.TheVariants.{Af as OfAf, Aba as OfAba}
use Rattle.edit_rules.specs.declared.edit.Edit.{Edit}
use Rattle.edit_rules.specs.declared.edit.Edit.TheVariants.{ArgAdd, ArgDrop, AttackAdd, AttackDrop}
use Rattle.edit_rules.specs.declared.effect.Effect.{Effect}
use Rattle.edit_rules.specs.AbaEdits.{contraries_of}
use Rattle.meaning_atoms.specs.AbaReadings.{HasContrary}
use Rattle.oracle_face.specs.AbaNeeded.{Heads, IsBodyStep}
use Rattle.oracle_face.specs.Walks.{IsWalkEnd, IsWalkStep}
use Rattle.af_encoding.specs.Changes.{IsCalledFor, IsEffectOf}
use Rattle.af_encoding.proofs.GainedLemmas.{gains_all, on_as, on_both, on_list}
use Rattle.aba_encoding.specs.Listing.{assumption_axioms, body_end, body_step, contrary_end, contrary_step, head_end, head_step, only_if, rule_axioms, walk_along}
use Rattle.aba_encoding.proofs.NeededLemmas.{body_ahead, body_low, body_under, by_closure, heads_low, heads_under, listed, step_of}
use Rattle.aba_encoding.proofs.NeededLemmas.{at_contrary, at_contrary_end, at_contrary_step, contrary_walk, own_axioms}
use Rattle.aba_encoding.proofs.ContraryLemmas.{contraries_ahead, contrary_low, contrary_under}
use Rattle.aba_encoding.proofs.WalkLemmas.{along_from, end_there, step_there, step_to}
use Rattle.aba_encoding.specs.Brought.{Brought, GainsBrought, GainsCalled, IsNamed, IsOf}
use Rattle.aba_encoding.specs.Brought.{IsOnly, by_contrary_added, by_contrary_gone, by_contrary_past, by_contrary_set}
use Rattle.aba_encoding.specs.Brought.{by_assumption, by_last_rule, by_rule, by_rule_gone, by_rule_head, last_rule, nothing}
use Rattle.aba_encoding.specs.Places.{HasNoneAfter, IsNextAfter, IsPlaceBefore}
use Rattle.aba_encoding.proofs.OutcomeLemmas.{never_taken}
use Rattle.aba_encoding.proofs.PlaceLemmas.{next_ends, one_next, one_place}
use Rattle.lists.proofs.Images.{image_there, image_from}

-- ---- lists of axioms

-- these are the axioms of what is brought
abbrev pub AreOf : Brought → List AbaAxiom → Type 0
AreOf b axioms = (name : AbaAxiom) → Contains axioms name ↔ IsOf b name

named : (b : Brought) (axioms : List AbaAxiom) → AreOf b axioms → (name : AxiomName)
    → Contains (map OfAba axioms) name ↔ IsNamed b name
named b axioms each name = (there name, back name)
  where
    there : (name : AxiomName) → Contains (map OfAba axioms) name → IsNamed b name
    there name c =
        let from = image_from OfAba axioms name c in
        subst (IsNamed b) from.2 ((each from.0).0 from.1)

    back : (name : AxiomName) → IsNamed b name → Contains (map OfAba axioms) name
    back (OfAba name) h = image_there OfAba axioms name ((each name).1 h)
    back (OfAf name) h = absurd h

pub on_brought : (b : Brought) (axioms : List AbaAxiom) (old new : List AxiomName) (r : Result Unit Memory)
    → AreOf b axioms → OnOk r (new ≡ old ++ map OfAba axioms) → OnOk r (GainsBrought b old new)
on_brought b axioms old new r each gains =
    on_list (IsNamed b) old new (map OfAba axioms) r (named b axioms each) gains

-- nothing is gained by nothing
pub none_brought : (b : Brought) (old : List AxiomName) → ((name : AbaAxiom) → IsOf b name → ⊥)
    → GainsBrought b old old
none_brought b old never name = (λ c. inl c, λ h. ⊎_elim (λ c. c) (λ is. absurd (none name is)) h)
  where
    none : (name : AxiomName) → IsNamed b name → ⊥
    none (OfAba name) is = never name is
    none (OfAf name) is = is

same_two : (make : ℕ → ℕ → AbaAxiom) (a b x y : ℕ) → x ≡ a → y ≡ b → make a b ≡ make x y
same_two make a b x y e e' = ap (λ m. make m b) (sym e) ∙ ap (make x) (sym e')

same_three : (make : ℕ → ℕ → ℕ → AbaAxiom) (a b c x y z : ℕ) → x ≡ a → y ≡ b → z ≡ c → make a b c ≡ make x y z
same_three make a b c x y z e e' e'' = same_two (λ m n. make m n c) a b x y e e' ∙ ap (make x y) (sym e'')

left : {P : Type 0} → (P ⊎ ⊥) ↔ P
left = (λ s. ⊎_elim (λ p. p) (λ n. absurd n) s, λ p. inl p)

right : {P : Type 0} → (⊥ ⊎ P) ↔ P
right = (λ s. ⊎_elim (λ n. absurd n) (λ p. p) s, λ p. inr p)

-- ---- an assumption with its contraries

module _ (f : Aba) (form : IsNumberedAba f) (a : ℕ) where
  it_from : (name : AbaAxiom) → Contains (assumption_axioms f a) name → IsOf (by_assumption f a) name
  it_from name c =
      let brought = by_assumption f a in
      ⊎_elim (listed (IsOf brought) (own_axioms f form a) (refl, (refl, (refl, (refl, tt)))) name)
      (λ later. ⊎_elim
      (λ on. listed (IsOf brought) (contrary_step a on.from on.stop) (
        (refl, on.is.stop),
        ((refl, on.is.stop), ((refl, on.is.stop), ((refl, on.is), ((refl, on.is), tt)))),
      ) name on.item)
      (λ at. listed (IsOf brought) (contrary_end a at.from) ((refl, at.is), ((refl, at.is), tt)) name at.item)
      (along_from (HasContrary f a) (contrary_low f form a) (contrary_under f form a) (contrary_step a) (contrary_end a)
      1 (contraries_of f.contraries a) (contraries_ahead f form a) name later))
      (Contains-append_cases (own_axioms f form a) (contrary_walk f form a) name c)

  it_back : (name : AbaAxiom) → IsOf (by_assumption f a) name → Contains (assumption_axioms f a) name
  it_back (B2 x) is = (0, omega arith, ap B2 (sym is))
  it_back (B3 x) is = (1, omega arith, ap B3 (sym is))
  it_back (B14 x) is = (2, omega arith, ap B14 (sym is))
  it_back (B15 x) is = (3, omega arith, ap B15 (sym is))
  it_back (B9Con x c) is =
      subst (λ m. Contains (assumption_axioms f a) (B9Con m c)) (sym is.0)
      (at_contrary f form a c is.1 (B9Con a c) (λ i. (0, omega arith, refl)))
  it_back (B12 x c) is =
      subst (λ m. Contains (assumption_axioms f a) (B12 m c)) (sym is.0)
      (at_contrary f form a c is.1 (B12 a c) (λ i. (1, omega arith, refl)))
  it_back (B13 x c) is =
      subst (λ m. Contains (assumption_axioms f a) (B13 m c)) (sym is.0)
      (at_contrary f form a c is.1 (B13 a c) (λ i. (2, omega arith, refl)))
  it_back (B18 k x i j) is =
      subst (λ m. Contains (assumption_axioms f a) (B18 k m i j)) (sym is.0)
      (at_contrary_step f form a i j is.1 (B18 k a i j) (step_of a i j k))
  it_back (B19 k x i) is =
      subst (λ m. Contains (assumption_axioms f a) (B19 k m i)) (sym is.0)
      (at_contrary_end f form a i is.1 (B19 k a i) (by_closure (λ k'. B19 k' a i) [] [] k))
  it_back (B5 k r h) is = absurd is
  it_back (B6 k r x) is = absurd is
  it_back (B7 k r i j) is = absurd is
  it_back (B8 k r i) is = absurd is
  it_back (B10 k x i j) is = absurd is
  it_back (B11 k x i) is = absurd is
  it_back _ is = absurd is

  pub assumption_listed : AreOf (by_assumption f a) (assumption_axioms f a)
  assumption_listed name = (it_from name, it_back name)

-- ---- a contrary alone

-- an item of axioms that are listed if a condition holds
only_from : (P : AbaAxiom → Type 0) (b : Bool) (axioms : List AbaAxiom) → (b ≡ true → AllByRecursion P axioms)
    → (name : AbaAxiom) → Contains (only_if b axioms) name → P name
only_from P true axioms each name c = listed P axioms (each refl) name c
only_from P false axioms each name c = absurd (Contains-nil name c)

only_there : (b : Bool) (axioms : List AbaAxiom) (name : AbaAxiom) → b ≡ true → Contains axioms name
    → Contains (only_if b axioms) name
only_there true axioms name is c = c
only_there false axioms name is c = absurd (false≢true is)

abbrev pub set_axioms : ℕ → ℕ → Bool → Bool → Bool → List AbaAxiom
set_axioms a c pair step end =
    only_if pair (B9Con a c ∷ B12 a c ∷ B13 a c ∷ [])
    ++ (only_if step (B18 Own a 1 c ∷ B18 Rest a 1 c ∷ []) ++ only_if end (contrary_end a (c + 1)))

module _ (a c : ℕ) (under : c < 1000001) where
  only_step : (c ≡ 0 → ⊥) → IsWalkStep (IsOnly c) 1 c
  only_step some = record {
    start = inl refl;
    order = omega (arith, some);
    gap = λ y p late early. let e = p.1 in omega arith;
    stop = (some, refl);
  }

  only_end : IsWalkEnd (IsOnly c) (c + 1)
  only_end = record {
    start = ⊎_elim (λ (e : c ≡ 0). inl (omega arith)) (λ some. inr (c, (some, refl), refl)) (cases_eq c 0);
    gap = λ y p late early. let e = p.1 in omega arith;
  }

  one_only_step : (i j : ℕ) → IsWalkStep (IsOnly c) i j → (i ≡ 1) × (j ≡ c)
  one_only_step i j is =
      let order = is.order in
      let stop = is.stop.1 in (
        ⊎_elim (λ e. e) (λ s. let e = s.1.1 in let e' = s.2 in absurd (omega arith)) is.start,
        stop,
      )

  one_only_end : (i : ℕ) → IsWalkEnd (IsOnly c) i → i ≡ c + 1
  one_only_end i is =
      ⊎_elim
      (λ (e : i ≡ 1). ⊎_elim (λ (none : c ≡ 0). omega arith)
      (λ some. absurd (is.gap c (some, refl) (omega (arith, some)) under)) (cases_eq c 0))
      (λ s. let e = s.1.1 in let e' = s.2 in omega arith) is.start

  module _ (gone : List ℕ) (pair step end : Bool)
      (new_pair : (pair ≡ true) ↔ ((c ≡ 0 → ⊥) × (Contains gone c → ⊥)))
      (new_step : (step ≡ true) ↔ ((c ≡ 0 → ⊥) × (IsWalkStep (Contains gone) 1 c → ⊥)))
      (new_end : (end ≡ true) ↔ (IsWalkEnd (Contains gone) (c + 1) → ⊥)) where
    abbrev pairs : List AbaAxiom
    pairs = B9Con a c ∷ B12 a c ∷ B13 a c ∷ []

    abbrev steps : List AbaAxiom
    steps = B18 Own a 1 c ∷ B18 Rest a 1 c ∷ []

    set_from : (name : AbaAxiom) → Contains (set_axioms a c pair step end) name → IsOf (by_contrary_set a c gone) name
    set_from name d =
        let brought = by_contrary_set a c gone in
        ⊎_elim
        (only_from (IsOf brought) pair pairs (λ t.
        let is = new_pair.0 t in
        ((refl, (is.0, refl), is.1), ((refl, (is.0, refl), is.1), ((refl, (is.0, refl), is.1), tt)))) name)
        (λ later. ⊎_elim
        (only_from (IsOf brought) step steps (λ t.
        let is = new_step.0 t in
        ((refl, only_step is.0, is.1), ((refl, only_step is.0, is.1), tt))) name)
        (only_from (IsOf brought) end (contrary_end a (c + 1))
        (λ t. ((refl, only_end, new_end.0 t), ((refl, only_end, new_end.0 t), tt))) name)
        (Contains-append_cases (only_if step steps) (only_if end (contrary_end a (c + 1))) name later))
        (Contains-append_cases (only_if pair pairs)
        (only_if step steps ++ only_if end (contrary_end a (c + 1))) name d)

    -- one of the axioms of the contrary, of the step to it, and of the end
    at_pair : (make : ℕ → ℕ → AbaAxiom) (x y : ℕ) → (x ≡ a) × IsOnly c y × (Contains gone y → ⊥)
        → Contains pairs (make a c) → Contains (set_axioms a c pair step end) (make x y)
    at_pair make x y is d =
        subst (Contains (set_axioms a c pair step end)) (same_two make a c x y is.0 is.1.1)
        (Contains-append_left (only_if pair pairs) (only_if step steps ++ only_if end (contrary_end a (c + 1)))
        (make a c)
        (only_there pair pairs (make a c)
        (new_pair.1 (is.1.0, λ old. is.2 (subst (Contains gone) (sym is.1.1) old))) d))

    at_step : (k : Closure) (x i j : ℕ)
        → (x ≡ a) × IsWalkStep (IsOnly c) i j × (IsWalkStep (Contains gone) i j → ⊥)
        → Contains (set_axioms a c pair step end) (B18 k x i j)
    at_step k x i j is =
        let one = one_only_step i j is.1 in
        subst (Contains (set_axioms a c pair step end)) (same_three (B18 k) a 1 c x i j is.0 one.0 one.1)
        (Contains-append_right (only_if pair pairs) (only_if step steps ++ only_if end (contrary_end a (c + 1)))
        (B18 k a 1 c)
        (Contains-append_left (only_if step steps) (only_if end (contrary_end a (c + 1))) (B18 k a 1 c)
        (only_there step steps (B18 k a 1 c)
        (new_step.1 (
          is.1.stop.0,
          λ old. is.2 (subst (λ m. IsWalkStep (Contains gone) m j) (sym one.0)
              (subst (λ m. IsWalkStep (Contains gone) 1 m) (sym one.1) old)),
        ))
        (by_closure (λ k'. B18 k' a 1 c) [] [] k))))

    at_end : (k : Closure) (x i : ℕ) → (x ≡ a) × IsWalkEnd (IsOnly c) i × (IsWalkEnd (Contains gone) i → ⊥)
        → Contains (set_axioms a c pair step end) (B19 k x i)
    at_end k x i is =
        let one = one_only_end i is.1 in
        subst (Contains (set_axioms a c pair step end)) (same_two (B19 k) a (c + 1) x i is.0 one)
        (Contains-append_right (only_if pair pairs) (only_if step steps ++ only_if end (contrary_end a (c + 1)))
        (B19 k a (c + 1))
        (Contains-append_right (only_if step steps) (only_if end (contrary_end a (c + 1))) (B19 k a (c + 1))
        (only_there end (contrary_end a (c + 1)) (B19 k a (c + 1))
        (new_end.1 (λ old. is.2 (subst (IsWalkEnd (Contains gone)) (sym one) old)))
        (by_closure (λ k'. B19 k' a (c + 1)) [] [] k))))

    set_back : (name : AbaAxiom) → IsOf (by_contrary_set a c gone) name → Contains (set_axioms a c pair step end) name
    set_back (B9Con x y) is = at_pair B9Con x y is (0, omega arith, refl)
    set_back (B12 x y) is = at_pair B12 x y is (1, omega arith, refl)
    set_back (B13 x y) is = at_pair B13 x y is (2, omega arith, refl)
    set_back (B18 k x i j) is = at_step k x i j is
    set_back (B19 k x i) is = at_end k x i is
    set_back _ is = absurd is

    pub set_listed : AreOf (by_contrary_set a c gone) (set_axioms a c pair step end)
    set_listed name = (set_from name, set_back name)

-- ---- a contrary that came or went

module _ (f : Aba) (form : IsNumberedAba f) (a c : ℕ) where
  abbrev From : ℕ → ℕ → Type 0
  From place i = i ≡ place

  beyond_last : (j : ℕ) → IsNextAfter (HasContrary f a) c j → HasNoneAfter (HasContrary f a) c → ⊥
  beyond_last = next_ends (HasContrary f a) (contrary_low f form a) (contrary_under f form a) c

  contrary_past_back : (p j : ℕ) → IsNextAfter (HasContrary f a) c j → (name : AbaAxiom)
      → IsOf (by_contrary_past f a c (From p)) name → Contains (B18 Own a p j ∷ B18 Rest a p j ∷ []) name
  contrary_past_back p j next (B18 k x s m) is =
      subst (Contains (B18 Own a p j ∷ B18 Rest a p j ∷ [])) (same_three (B18 k) a p j x s m is.0 is.1
      (one_next (HasContrary f a) (contrary_low f form a) (contrary_under f form a) c j m next is.2))
      (by_closure (λ k'. B18 k' a p j) [] [] k)
  contrary_past_back p j next (B19 k x s) is = absurd (beyond_last j next is.2)
  contrary_past_back p j next _ is = absurd is

  pub contrary_past_listed : (p j : ℕ) → IsNextAfter (HasContrary f a) c j
      → AreOf (by_contrary_past f a c (From p)) (B18 Own a p j ∷ B18 Rest a p j ∷ [])
  contrary_past_listed p j next name = (
    listed (IsOf (by_contrary_past f a c (From p))) (B18 Own a p j ∷ B18 Rest a p j ∷ [])
        ((refl, refl, next), ((refl, refl, next), tt)) name,
    contrary_past_back p j next name,
  )

  contrary_last_back : (p : ℕ) → HasNoneAfter (HasContrary f a) c → (name : AbaAxiom)
      → IsOf (by_contrary_past f a c (From p)) name → Contains (contrary_end a p) name
  contrary_last_back p none (B19 k x s) is =
      subst (Contains (contrary_end a p)) (same_two (B19 k) a p x s is.0 is.1) (by_closure (λ k'. B19 k' a p) [] [] k)
  contrary_last_back p none (B18 k x s m) is = absurd (beyond_last m is.2 none)
  contrary_last_back p none _ is = absurd is

  pub contrary_last_listed : (p : ℕ) → HasNoneAfter (HasContrary f a) c
      → AreOf (by_contrary_past f a c (From p)) (contrary_end a p)
  contrary_last_listed p none name = (
    listed (IsOf (by_contrary_past f a c (From p))) (contrary_end a p) ((refl, refl, none), ((refl, refl, none), tt))
        name,
    contrary_last_back p none name,
  )

  module _ (start : ℕ) (place : IsPlaceBefore (HasContrary f a) c start) where
    one_place_is : (k : ℕ) → IsPlaceBefore (HasContrary f a) c k → k ≡ start
    one_place_is k other =
        one_place (HasContrary f a) (contrary_low f form a) (contrary_under f form a) c start k place other

    same_place : (k : ℕ) → k ≡ start → IsPlaceBefore (HasContrary f a) c k
    same_place k e = subst (IsPlaceBefore (HasContrary f a) c) (sym e) place

    -- from the place that was found is from where the walk comes
    found_place : (name : AxiomName) → IsNamed (by_contrary_past f a c (From start)) name
        ↔ IsNamed (by_contrary_gone f a c) name
    found_place (OfAba (B18 k x i j)) = (
      λ h. (h.0, same_place i h.1, h.2),
      λ h. (h.0, one_place_is i h.1, h.2),
    )
    found_place (OfAba (B19 k x i)) = (
      λ h. (h.0, same_place i h.1, h.2),
      λ h. (h.0, one_place_is i h.1, h.2),
    )
    found_place (OfAba _) = (λ h. h, λ h. h)
    found_place (OfAf _) = (λ h. h, λ h. h)

    pub on_gone : (old new : List AxiomName) (r : Result Unit Memory)
        → OnOk r (GainsBrought (by_contrary_past f a c (From start)) old new)
        → OnOk r (GainsBrought (by_contrary_gone f a c) old new)
    on_gone old new r = on_as _ _ old new r found_place

    -- the contrary with the step to it
    abbrev to_contrary : Brought
    to_contrary = record nothing {
      contrary = λ x y. (x ≡ a) × (y ≡ c);
      contrary_step = λ x i j. (x ≡ a) × IsPlaceBefore (HasContrary f a) c i × (j ≡ c);
    }

    to_back : (name : AbaAxiom) → IsOf to_contrary name → Contains (contrary_step a start c) name
    to_back (B9Con x y) is = (0, omega arith, same_two B9Con a c x y is.0 is.1)
    to_back (B12 x y) is = (1, omega arith, same_two B12 a c x y is.0 is.1)
    to_back (B13 x y) is = (2, omega arith, same_two B13 a c x y is.0 is.1)
    to_back (B18 k x i j) is =
        subst (Contains (contrary_step a start c)) (same_three (B18 k) a start c x i j is.0 (one_place_is i is.1) is.2)
        (step_of a start c k)
    to_back _ is = absurd is

    to_listed : AreOf to_contrary (contrary_step a start c)
    to_listed name = (
      listed (IsOf to_contrary) (contrary_step a start c)
          ((refl, refl), ((refl, refl), ((refl, refl), ((refl, place, refl), ((refl, place, refl), tt))))) name,
      to_back name,
    )

    to_and_past : (name : AxiomName)
        → (IsNamed to_contrary name ⊎ IsNamed (by_contrary_past f a c (From (c + 1))) name)
        ↔ IsNamed (by_contrary_added f a c) name
    to_and_past (OfAba (B18 k x i j)) = (
      λ s. ⊎_elim (λ h. (h.0, inl (h.1, h.2))) (λ h. (h.0, inr (h.1, h.2))) s,
      λ h. ⊎_elim (λ w. inl (h.0, w.0, w.1)) (λ w. inr (h.0, w.0, w.1)) h.1,
    )
    to_and_past (OfAba (B19 k x i)) = right
    to_and_past (OfAba _) = left
    to_and_past (OfAf _) = left

    pub on_added : (old mid new : List AxiomName) (r : Result Unit Memory)
        → mid ≡ old ++ map OfAba (contrary_step a start c)
        → OnOk r (GainsBrought (by_contrary_past f a c (From (c + 1))) mid new)
        → OnOk r (GainsBrought (by_contrary_added f a c) old new)
    on_added old mid new r first second =
        on_as _ _ old new r to_and_past
        (on_both (IsNamed to_contrary) (IsNamed (by_contrary_past f a c (From (c + 1)))) old mid new
        (map OfAba (contrary_step a start c)) r (named to_contrary (contrary_step a start c) to_listed) first second)

-- ---- a rule

module _ (f : Aba) (form : IsNumberedAba f) (r : Rule) (there : Contains f.rules r) where
  abbrev walk : List AbaAxiom
  walk = walk_along (body_step r.number) (body_end r.number) 1 r.body

  rule_from : (name : AbaAxiom) → Contains (rule_axioms r) name → IsOf (by_rule r) name
  rule_from name c =
      let step = body_step r.number in
      let end = body_end r.number in
      ⊎_elim (λ e. subst (IsOf (by_rule r)) e (refl, refl))
      (λ c'. ⊎_elim (λ e. subst (IsOf (by_rule r)) e (refl, refl))
      (λ later. ⊎_elim
      (λ on. listed (IsOf (by_rule r)) (step on.from on.stop) (
        (refl, on.is.stop),
        ((refl, on.is.stop), ((refl, on.is), ((refl, on.is), tt))),
      ) name on.item)
      (λ at. listed (IsOf (by_rule r)) (end at.from) ((refl, at.is), ((refl, at.is), tt)) name at.item)
      (along_from (Contains r.body) (body_low f form r there) (body_under f form r there) step end 1 r.body
      (body_ahead f form r there) name later))
      (Contains-cons_cases (B5 Rest r.number r.head) walk name c'))
      (Contains-cons_cases (B5 Own r.number r.head) (B5 Rest r.number r.head ∷ walk) name c)

  on_walk : (name : AbaAxiom) → Contains walk name → Contains (rule_axioms r) name
  on_walk name c = Contains-append_right (B5 Own r.number r.head ∷ B5 Rest r.number r.head ∷ []) walk name c

  on_step : (i j : ℕ) → IsBodyStep i j r → (name : AbaAxiom) → Contains (body_step r.number i j) name
      → Contains (rule_axioms r) name
  on_step i j is name c =
      let low = body_low f form r there j is.stop in
      on_walk name
      (step_there (Contains r.body) (body_low f form r there) (body_under f form r there) (body_step r.number)
      (body_end r.number) 1 r.body (body_ahead f form r there) i j is low name c)

  rule_back : (name : AbaAxiom) → IsOf (by_rule r) name → Contains (rule_axioms r) name
  rule_back (B5 k n h) is =
      subst (λ m. Contains (rule_axioms r) (B5 k m h)) (sym is.0)
      (subst (λ y. Contains (rule_axioms r) (B5 k r.number y)) is.1
      (by_closure (λ k'. B5 k' r.number r.head) [] walk k))
  rule_back (B6 k n x) is =
      let c = is.1 in
      let w = step_to (Contains r.body) (body_low f form r there) (body_under f form r there) 1 r.body
      (body_ahead f form r there) x c (body_low f form r there x c) in
      subst (λ m. Contains (rule_axioms r) (B6 k m x)) (sym is.0)
      (on_step w.0 x w.1 (B6 k r.number x)
      (by_closure (λ k'. B6 k' r.number x) [] (B7 Own r.number w.0 x ∷ B7 Rest r.number w.0 x ∷ []) k))
  rule_back (B7 k n i j) is =
      subst (λ m. Contains (rule_axioms r) (B7 k m i j)) (sym is.0)
      (on_step i j is.1 (B7 k r.number i j)
      (by_closure (λ k'. B7 k' r.number i j) (B6 Own r.number j ∷ B6 Rest r.number j ∷ []) [] k))
  rule_back (B8 k n i) is =
      subst (λ m. Contains (rule_axioms r) (B8 k m i)) (sym is.0)
      (on_walk (B8 k r.number i)
      (end_there (Contains r.body) (body_low f form r there) (body_under f form r there) (body_step r.number)
      (body_end r.number) 1 r.body (body_ahead f form r there) i is.1 (B8 k r.number i)
      (by_closure (λ k'. B8 k' r.number i) [] [] k)))
  rule_back _ is = absurd is

  pub rule_listed : AreOf (by_rule r) (rule_axioms r)
  rule_listed name = (rule_from name, rule_back name)

-- ---- the steps round a rule

module _ (f : Aba) (form : IsNumberedAba f) (h n i : ℕ) (place : IsPlaceBefore (Heads f h) n i) where
  one_start : (k : ℕ) → IsPlaceBefore (Heads f h) n k → k ≡ i
  one_start k other = one_place (Heads f h) (heads_low f form h) (heads_under f form h) n i k place other

  abbrev pub round_axioms : List AbaAxiom
  round_axioms = head_step h i n ++ head_end h (n + 1)

  round_back : (name : AbaAxiom) → IsOf (by_rule_head f h n) name → Contains round_axioms name
  round_back (B10 k x s j) is =
      subst (Contains round_axioms) (same_three (B10 k) h i n x s j is.0 (one_start s is.1) is.2)
      (by_closure (λ k'. B10 k' h i n) [] (head_end h (n + 1)) k)
  round_back (B11 k x s) is =
      subst (Contains round_axioms) (same_two (B11 k) h (n + 1) x s is.0 is.1)
      (by_closure (λ k'. B11 k' h (n + 1)) (head_step h i n) [] k)
  round_back _ is = absurd is

  pub round_listed : AreOf (by_rule_head f h n) round_axioms
  round_listed name = (
    listed (IsOf (by_rule_head f h n)) round_axioms (
      (refl, place, refl),
      ((refl, place, refl), ((refl, refl), ((refl, refl), tt))),
    ) name,
    round_back name,
  )

  ends : (j : ℕ) → IsNextAfter (Heads f h) n j → HasNoneAfter (Heads f h) n → ⊥
  ends j next none = next_ends (Heads f h) (heads_low f form h) (heads_under f form h) n j next none

  past_back : (j : ℕ) → IsNextAfter (Heads f h) n j → (name : AbaAxiom) → IsOf (by_rule_gone f h n) name
      → Contains (head_step h i j) name
  past_back j next (B10 k x s m) is =
      subst (Contains (head_step h i j)) (same_three (B10 k) h i j x s m is.0 (one_start s is.1)
      (one_next (Heads f h) (heads_low f form h) (heads_under f form h) n j m next is.2))
      (by_closure (λ k'. B10 k' h i j) [] [] k)
  past_back j next (B11 k x s) is = absurd (ends j next is.2)
  past_back j next _ is = absurd is

  pub past_listed : (j : ℕ) → IsNextAfter (Heads f h) n j → AreOf (by_rule_gone f h n) (head_step h i j)
  past_listed j next name = (
    listed (IsOf (by_rule_gone f h n)) (head_step h i j) ((refl, place, next), ((refl, place, next), tt)) name,
    past_back j next name,
  )

  last_back : HasNoneAfter (Heads f h) n → (name : AbaAxiom) → IsOf (by_rule_gone f h n) name
      → Contains (head_end h i) name
  last_back none (B11 k x s) is =
      subst (Contains (head_end h i)) (same_two (B11 k) h i x s is.0 (one_start s is.1))
      (by_closure (λ k'. B11 k' h i) [] [] k)
  last_back none (B10 k x s m) is = absurd (ends m is.2 none)
  last_back none _ is = absurd is

  pub last_listed : HasNoneAfter (Heads f h) n → AreOf (by_rule_gone f h n) (head_end h i)
  last_listed none name = (
    listed (IsOf (by_rule_gone f h n)) (head_end h i) ((refl, place, none), ((refl, place, none), tt)) name,
    last_back none name,
  )

-- ---- the last rule with its steps

module _ (f : Aba) (h : ℕ) where
  abbrev Either : AbaAxiom → Type 0
  Either name = IsOf (by_rule (last_rule f)) name ⊎ IsOf (by_rule_head f h (last_rule f).number) name

  both : (name : AbaAxiom) → Either name ↔ IsOf (by_last_rule f h) name
  both (B10 k x i j) = right
  both (B11 k x i) = right
  both _ = left

  both_named : (name : AxiomName)
      → (IsNamed (by_rule (last_rule f)) name ⊎ IsNamed (by_rule_head f h (last_rule f).number) name)
      ↔ IsNamed (by_last_rule f h) name
  both_named (OfAba name) = both name
  both_named (OfAf name) = left

  pub on_last_rule : IsNumberedAba f → Contains f.rules (last_rule f) → (old mid new : List AxiomName)
      (r : Result Unit Memory) → mid ≡ old ++ map OfAba (rule_axioms (last_rule f))
      → OnOk r (GainsBrought (by_rule_head f h (last_rule f).number) mid new)
      → OnOk r (GainsBrought (by_last_rule f h) old new)
  on_last_rule form there old mid new r first second =
      let axioms = rule_axioms (last_rule f) in
      on_as _ _ old new r both_named
      (on_both (IsNamed (by_rule (last_rule f))) (IsNamed (by_rule_head f h (last_rule f).number)) old mid new
      (map OfAba axioms) r (named (by_rule (last_rule f)) axioms (rule_listed f form (last_rule f) there)) first second)

-- ---- all that an edit calls for

pub on_called : (b : Brought) (g : Aba) (effect : Effect) (old new : List AxiomName) (r : Result Unit Memory)
    → ((f : Aba) → IsNumberedAba f → IsEffectOf (aba f) (aba g) effect → (name : AxiomName)
    → IsNamed b name ↔ IsCalledFor (aba f) (aba g) name)
    → OnOk r (GainsBrought b old new) → OnOk r (GainsCalled g effect old new)
on_called b g effect old new (Ok done) same h =
    λ f ok of. on_as (IsNamed b) (IsCalledFor (aba f) (aba g)) old new (Ok tt) (same f ok of) h
on_called b g effect old new (Err memory) same h = h

pub called_all : (g : Aba) (effect : Effect) (old mid new : List AxiomName) → old ≡ [] → new ≡ mid
    → GainsCalled g effect old mid → (f : Aba) → IsNumberedAba f → IsEffectOf (aba f) (aba g) effect
    → (name : AxiomName) → Contains new name ↔ IsCalledFor (aba f) (aba g) name
called_all g effect old mid new none same h f ok of name =
    subst (λ names. Contains names name ↔ IsCalledFor (aba f) (aba g) name) (sym same)
    (gains_all (IsCalledFor (aba f) (aba g)) old mid none (h f ok of) name)

-- an edit that calls for nothing
pub none_called : (g : Aba) (effect : Effect) (names : List AxiomName)
    → ((f : Aba) → IsNumberedAba f → IsEffectOf (aba f) (aba g) effect → (name : AxiomName)
    → IsNamed nothing name ↔ IsCalledFor (aba f) (aba g) name)
    → GainsCalled g effect names names
none_called g effect names same f ok of =
    on_as (IsNamed nothing) (IsCalledFor (aba f) (aba g)) names names (Ok tt) (same f ok of)
    (none_brought nothing names never)
  where
    never : (name : AbaAxiom) → IsOf nothing name → ⊥
    never (B2 a) h = h
    never _ h = h

-- an edit of abstract frameworks
abbrev pub IsOfAfs : Edit → Type 0
IsOfAfs edit = ((n : ℕ) × (edit ≡ ArgAdd n)) ⊎ (((n : ℕ) × (edit ≡ ArgDrop n))
    ⊎ (((b : ℕ) × (a : ℕ) × (edit ≡ AttackAdd b a)) ⊎ ((b : ℕ) × (a : ℕ) × (edit ≡ AttackDrop b a))))

-- it has no effect on an assumption-based one
pub wrong_kind : (g : Aba) (effect : Effect) (names : List AxiomName) → IsOfAfs effect.edit
    → GainsCalled g effect names names
wrong_kind g effect names is f ok of = absurd
    (⊎_elim (λ w. never_taken f g effect (ArgAdd w.0) refl of w.1)
    (λ more. ⊎_elim (λ w. never_taken f g effect (ArgDrop w.0) refl of w.1)
    (λ last. ⊎_elim (λ w. never_taken f g effect (AttackAdd w.0 w.1) refl of w.2)
    (λ w. never_taken f g effect (AttackDrop w.0 w.1) refl of w.2) last) more) is)
