-- What the lines say, with one line more.
use Rattle.std.proofs.Common.{◌≡◌, ℕ, ◌+◌, ◌<◌, ◌≤◌, List, [], ◌∷◌, ◌++◌, length, map, get_or, set}
use Rattle.std.proofs.Common.{refl, sym, ap, subst, ◌∙◌, ◌⊎◌, inl, inr, ⊎_elim, Bool, true, false, arith}
use Rattle.std.proofs.Common.{get_or-set_same, get_or-set_other}
use Rattle.std.specs.Prelude.{Contains}
use Rattle.std.proofs.lemmas.Bool.{cases_eq}
use Rattle.std.proofs.lemmas.List.{length-append, length-map, map-append, append-nil, get_or_append_left, length-set}
use Rattle.std.proofs.lemmas.List.Elements.{Contains-push_cases, Contains-append_left, Contains-append_right}
use Rattle.std.proofs.lemmas.List.Elements.{Contains-append_cases}
use Rattle.std.proofs.Math.Seq.{get_or-append_seam}
use Rattle.lists.proofs.Membership.{Contains-pushed}
use Rattle.semantics.specs.AbaFrameworks.{IsAtom}
use Rattle.aba_format.specs.AbaText.{Said, says_assumption, says_contrary, says_rule, atoms_of, SaysLine}
use Rattle.aba_format.specs.AbaText.{contraries_said, rules_said, AreConsistent}
use Rattle.aba_format.specs.Reading.{
  is_marked,
  AreMarked,
  AreWide,
  AreWideFor,
  AreRulesIn,
  IsSaidIn,
  AreEmpty,
  AddsAssumption,
  IsNewAssumption,
  IsOpposedAgain,
  IsFirstOpposed,
  AddsContrary,
  AddsRule,
  Adds,
}
use Rattle.aba_format.specs.declared.said.LineParts.{LineParts}
use Rattle.aba_format.specs.declared.said.TheConstants.{MAX_CONTRARY_LINES, MAX_RULE_LINES}
use Rattle.aba_format.proofs.SaysLemmas.{atoms_within, contraries_said-append, rules_said-append}
use Rattle.lists.proofs.Images.{image_there, image_from}

-- ---- what is said, with one thing more

kept : (all : List Said) (s t : Said) → Contains all t → Contains (all ++ s ∷ []) t
kept all s t c = Contains-append_left all (s ∷ []) t c

pub still : (all : List Said) (s t : Said) → (s ≡ t → ⊥) → Contains (all ++ s ∷ []) t → Contains all t
still all s t ne c = ⊎_elim (λ h. h) (λ e. absurd (ne e)) (Contains-push_cases all s t c)

pub newest : (all : List Said) (s : Said) → Contains (all ++ s ∷ []) s
newest all s = Contains-pushed all s s refl

-- which kind a thing is
abbrev pub kind : Said → ℕ
kind (says_assumption x) = 0
kind (says_contrary x y) = 1
kind (says_rule head body) = 2

pub other_kind : (s t : Said) → (kind s ≡ kind t → ⊥) → s ≡ t → ⊥
other_kind s t ne e = ne (ap kind e)

-- its first atom, and the second of a contrary
abbrev pub first_atom : Said → ℕ
first_atom s = get_or (atoms_of s) 0 0

abbrev pub second_atom : Said → ℕ
second_atom s = get_or (atoms_of s) 1 0

-- ---- marks

marks_kept : (marks : List Bool) (P Q : ℕ → Type 0) → AreMarked marks P → ((x : ℕ) → P x → Q x)
    → ((x : ℕ) → Q x → P x) → AreMarked marks Q
marks_kept marks P Q h to from = record {
  marked = λ x m. to x (h.marked x m);
  all = λ x q. h.all x (from x q);
}

marks_more : (marks : List Bool) (y : ℕ) (P Q : ℕ → Type 0) → AreMarked marks P → y < length marks → Q y
    → ((x : ℕ) → P x → Q x) → ((x : ℕ) → Q x → P x ⊎ (x ≡ y)) → AreMarked (set marks y true) Q
marks_more marks y P Q h wide here to from = record {
  marked = λ x m. ⊎_elim (λ (e : x ≡ y). subst Q (sym e) here)
      (λ ne. to x (h.marked x (sym (get_or-set_other marks y x true false ne) ∙ m))) (cases_eq x y);
  all = λ x q. ⊎_elim
      (λ p. ⊎_elim (λ (e : x ≡ y). ap (λ n. get_or (set marks y true) n false) e ∙ get_or-set_same marks y true false
      wide)
      (λ ne. get_or-set_other marks y x true false ne ∙ h.all x p) (cases_eq x y))
      (λ (e : x ≡ y). ap (λ n. get_or (set marks y true) n false) e ∙ get_or-set_same marks y true false wide)
      (from x q);
}

-- ---- nothing

pub said_nothing : (count : ℕ) (parts : LineParts) → AreEmpty count parts → IsSaidIn count [] parts
said_nothing count parts h = record {
  wide = record { assumed = h.assumed_wide; heading = h.heading_wide; opposed = h.opposed_wide };
  assumed = record {
    marked = λ x m. absurd (not_both x (h.assumed x) m);
    all = λ x c. absurd (omega (arith, c.1));
  };
  heading = record {
    marked = λ x m. absurd (not_both x (h.heading x) m);
    all = λ x c. absurd (omega (arith, c.1.1));
  };
  opposed = record {
    marked = λ x m. absurd (not_both x (h.opposed x) m);
    all = λ x c. absurd (omega (arith, c.1.1));
  };
  contraries = h.contraries;
  assumptions = λ x c. absurd (none h.assumptions c);
  assumptions_all = λ x c. absurd (omega (arith, c.1));
  rules = record {
    heads_are = h.heads;
    within = λ k y c. absurd (none h.bodies c);
    bodies_are = λ k y d lt c. absurd (none h.bodies c);
    all = λ k y d lt c. absurd (omega arith);
  };
}
  where
    not_both : {b : Bool} (x : ℕ) → b ≡ false → b ≡ true → ⊥
    not_both x e f = let bad : true ≡ false = sym f ∙ e in cc

    none : {X : Type 0} {xs : List X} {x : X} → xs ≡ [] → Contains xs x → ⊥
    none e c = let long = ap length e in absurd (omega (arith, c.1))

pub consistent_nothing : AreConsistent []
consistent_nothing = record {
  few = omega arith;
  few_contraries = omega arith;
  flat = λ x body c d. absurd (omega (arith, c.1));
}

-- ---- what another thing leaves

assumed_kept : (all : List Said) (s : Said) (marks : List Bool) → (kind s ≡ 0 → ⊥)
    → AreMarked marks (λ x. Contains all (says_assumption x))
    → AreMarked marks (λ x. Contains (all ++ s ∷ []) (says_assumption x))
assumed_kept all s marks ne h = marks_kept marks (λ x. Contains all (says_assumption x))
    (λ x. Contains (all ++ s ∷ []) (says_assumption x)) h (λ x c. kept all s (says_assumption x) c)
    (λ x c. still all s (says_assumption x) (other_kind s (says_assumption x) ne) c)

heading_kept : (all : List Said) (s : Said) (marks : List Bool) → (kind s ≡ 2 → ⊥)
    → AreMarked marks (λ x. (body : List ℕ) × Contains all (says_rule x body))
    → AreMarked marks (λ x. (body : List ℕ) × Contains (all ++ s ∷ []) (says_rule x body))
heading_kept all s marks ne h = marks_kept marks (λ x. (body : List ℕ) × Contains all (says_rule x body))
    (λ x. (body : List ℕ) × Contains (all ++ s ∷ []) (says_rule x body)) h
    (λ x c. (c.0, kept all s (says_rule x c.0) c.1))
    (λ x c. (c.0, still all s (says_rule x c.0) (other_kind s (says_rule x c.0) ne) c.1))

opposed_kept : (all : List Said) (s : Said) (marks : List Bool) → (kind s ≡ 1 → ⊥)
    → AreMarked marks (λ x. (y : ℕ) × Contains all (says_contrary x y))
    → AreMarked marks (λ x. (y : ℕ) × Contains (all ++ s ∷ []) (says_contrary x y))
opposed_kept all s marks ne h = marks_kept marks (λ x. (y : ℕ) × Contains all (says_contrary x y))
    (λ x. (y : ℕ) × Contains (all ++ s ∷ []) (says_contrary x y)) h
    (λ x c. (c.0, kept all s (says_contrary x c.0) c.1))
    (λ x c. (c.0, still all s (says_contrary x c.0) (other_kind s (says_contrary x c.0) ne) c.1))

-- the assumptions stand in a list
record AreAssumptions (all : List Said) (xs : List ℕ) : Type 0 where
  some : (x : ℕ) → Contains xs x → Contains all (says_assumption x)
  every : (x : ℕ) → Contains all (says_assumption x) → Contains xs x

assumptions_in : (count : ℕ) (all : List Said) (parts : LineParts) → IsSaidIn count all parts
    → AreAssumptions all parts.assumptions.items
assumptions_in count all parts h = record { some = h.assumptions; every = h.assumptions_all }

assumptions_kept : (all : List Said) (s : Said) (xs : List ℕ) → (kind s ≡ 0 → ⊥) → AreAssumptions all xs
    → AreAssumptions (all ++ s ∷ []) xs
assumptions_kept all s xs ne h = record {
  some = λ x c. kept all s (says_assumption x) (h.some x c);
  every = λ x c. h.every x (still all s (says_assumption x) (other_kind s (says_assumption x) ne) c);
}

-- the rules and the contraries that are said stay, where what is new is none
rules_stay : (all : List Said) (s : Said) → rules_said (s ∷ []) ≡ [] → rules_said (all ++ s ∷ []) ≡ rules_said all
rules_stay all s none = rules_said-append all (s ∷ []) ∙ ap (λ rs. rules_said all ++ rs) none
    ∙ append-nil (rules_said all)

contraries_stay : (all : List Said) (s : Said) → contraries_said (s ∷ []) ≡ []
    → contraries_said (all ++ s ∷ []) ≡ contraries_said all
contraries_stay all s none = contraries_said-append all (s ∷ []) ∙ ap (λ cs. contraries_said all ++ cs) none
    ∙ append-nil (contraries_said all)

rules_kept : (all : List Said) (s : Said) (heads : List ℕ) (bodies : List (ℕ × ℕ)) → rules_said (s ∷ []) ≡ []
    → AreRulesIn (rules_said all) heads bodies → AreRulesIn (rules_said (all ++ s ∷ [])) heads bodies
rules_kept all s heads bodies none h =
    subst (λ rs. AreRulesIn rs heads bodies) (sym (rules_stay all s none)) h

-- the parts hold what is said in these lists
said_in_lists : (count : ℕ) (all : List Said) (parts : LineParts) (assumed heading opposed : List Bool)
    (assumptions heads : List ℕ) (contraries bodies : List (ℕ × ℕ)) → parts.assumed.items ≡ assumed
    → parts.heading.items ≡ heading → parts.opposed.items ≡ opposed → parts.assumptions.items ≡ assumptions
    → parts.contraries.items ≡ contraries → parts.heads.items ≡ heads → parts.bodies.items ≡ bodies
    → length assumed ≡ count + 1 → length heading ≡ count + 1 → length opposed ≡ count + 1
    → AreMarked assumed (λ x. Contains all (says_assumption x))
    → AreMarked heading (λ x. (body : List ℕ) × Contains all (says_rule x body))
    → AreMarked opposed (λ x. (y : ℕ) × Contains all (says_contrary x y)) → AreAssumptions all assumptions
    → contraries ≡ contraries_said all → AreRulesIn (rules_said all) heads bodies → IsSaidIn count all parts
said_in_lists count all parts assumed heading opposed assumptions heads contraries bodies e1 e2 e3 e4 e5 e6 e7 w1 w2 w3
    m1 m2 m3 asms cs rs =
    let asms' : AreAssumptions all parts.assumptions.items = subst (AreAssumptions all) (sym e4) asms in
    record {
      wide = record { assumed = ap length e1 ∙ w1; heading = ap length e2 ∙ w2; opposed = ap length e3 ∙ w3 };
      assumed = subst (λ ms. AreMarked ms (λ x. Contains all (says_assumption x))) (sym e1) m1;
      heading = subst (λ ms. AreMarked ms (λ x. (body : List ℕ) × Contains all (says_rule x body))) (sym e2) m2;
      opposed = subst (λ ms. AreMarked ms (λ x. (y : ℕ) × Contains all (says_contrary x y))) (sym e3) m3;
      contraries = e5 ∙ cs;
      assumptions = asms'.some;
      assumptions_all = asms'.every;
      rules = subst (λ hs. AreRulesIn (rules_said all) hs parts.bodies.items) (sym e6)
          (subst (λ bs. AreRulesIn (rules_said all) heads bs) (sym e7) rs);
    }

-- ---- an assumption more

assumption_again : (count : ℕ) (all : List Said) (x : ℕ) (old : LineParts) → IsSaidIn count all old
    → Contains all (says_assumption x) → IsSaidIn count (all ++ says_assumption x ∷ []) old
assumption_again count all x old h c =
    let s : Said = says_assumption x in
    let asms = assumptions_in count all old h in
    said_in_lists count (all ++ s ∷ []) old old.assumed.items old.heading.items old.opposed.items
    old.assumptions.items old.heads.items old.contraries.items old.bodies.items refl refl refl refl refl refl refl
    h.wide.assumed h.wide.heading h.wide.opposed
    (marks_kept old.assumed.items (λ z. Contains all (says_assumption z))
    (λ z. Contains (all ++ s ∷ []) (says_assumption z)) h.assumed (λ z d. kept all s (says_assumption z) d) back)
    (heading_kept all s old.heading.items (λ e. omega arith) h.heading)
    (opposed_kept all s old.opposed.items (λ e. omega arith) h.opposed)
    (record {
      some = λ z d. kept all s (says_assumption z) (asms.some z d);
      every = λ z d. asms.every z (back z d);
    })
    (h.contraries ∙ sym (contraries_stay all s refl))
    (rules_kept all s old.heads.items old.bodies.items refl h.rules)
  where
    back : (z : ℕ) → Contains (all ++ says_assumption x ∷ []) (says_assumption z) → Contains all (says_assumption z)
    back z d = ⊎_elim (λ there. there)
        (λ (e : says_assumption x ≡ says_assumption z). subst (λ n. Contains all (says_assumption n)) (ap first_atom e)
        c)
        (Contains-push_cases all (says_assumption x) (says_assumption z) d)

assumption_new : (count : ℕ) (all : List Said) (x : ℕ) (old new : LineParts) → IsSaidIn count all old → IsAtom count x
    → IsNewAssumption x old new → IsSaidIn count (all ++ says_assumption x ∷ []) new
assumption_new count all x old new h atom a =
    let s : Said = says_assumption x in
    let high = atom.high in
    let wide_is = h.wide.assumed in
    let wide : x < length old.assumed.items = omega arith in
    said_in_lists count (all ++ s ∷ []) new (set old.assumed.items x true) old.heading.items old.opposed.items
    (old.assumptions.items ++ x ∷ []) old.heads.items old.contraries.items old.bodies.items a.assumed a.heading
    a.opposed a.assumptions a.contraries a.heads a.bodies (length-set old.assumed.items x true ∙ h.wide.assumed)
    h.wide.heading h.wide.opposed
    (marks_more old.assumed.items x (λ z. Contains all (says_assumption z))
    (λ z. Contains (all ++ s ∷ []) (says_assumption z)) h.assumed wide
    (newest all s) (λ z d. kept all s (says_assumption z) d)
    (λ z d. ⊎_elim (λ there. inl there) (λ (e : says_assumption x ≡ says_assumption z). inr (sym (ap first_atom e)))
    (Contains-push_cases all s (says_assumption z) d)))
    (heading_kept all s old.heading.items (λ e. omega arith) h.heading)
    (opposed_kept all s old.opposed.items (λ e. omega arith) h.opposed)
    (record {
      some = λ z d. ⊎_elim
          (λ there. kept all s (says_assumption z) (h.assumptions z there))
          (λ (e : x ≡ z). subst (λ n. Contains (all ++ s ∷ []) (says_assumption n)) e (newest all s))
          (Contains-push_cases old.assumptions.items x z d);
      every = λ z d. ⊎_elim
          (λ there. Contains-append_left old.assumptions.items (x ∷ []) z (h.assumptions_all z there))
          (λ (e : says_assumption x ≡ says_assumption z). Contains-pushed old.assumptions.items x z (ap first_atom e))
          (Contains-push_cases all s (says_assumption z) d);
    })
    (h.contraries ∙ sym (contraries_stay all s refl))
    (rules_kept all s old.heads.items old.bodies.items refl h.rules)

assumption_next : (count : ℕ) (all : List Said) (x : ℕ) (old new : LineParts) → IsSaidIn count all old → IsAtom count x
    → AddsAssumption x old new → IsSaidIn count (all ++ says_assumption x ∷ []) new
assumption_next count all x old new h atom a = ⊎_elim
    (λ (same : (is_marked old.assumed.items x ≡ true) × (new ≡ old)).
    subst (λ p. IsSaidIn count (all ++ says_assumption x ∷ []) p) (sym same.1)
    (assumption_again count all x old h (h.assumed.marked x same.0)))
    (λ fresh. assumption_new count all x old new h atom fresh) a.added

assumption_consistent : (count : ℕ) (all : List Said) (x : ℕ) (old : LineParts) → IsSaidIn count all old
    → is_marked old.heading.items x ≡ false → AreConsistent all → AreConsistent (all ++ says_assumption x ∷ [])
assumption_consistent count all x old h flat ok =
    let few = ok.few in
    let few' = ok.few_contraries in
    record {
      few = subst (λ rs. length rs ≤ MAX_RULE_LINES) (sym (rules_stay all (says_assumption x) refl)) few;
      few_contraries = subst (λ cs. length cs ≤ MAX_CONTRARY_LINES) (sym (contraries_stay all (says_assumption x) refl))
          few';
      flat = λ z body c d.
          let rule = still all (says_assumption x) (says_rule z body)
          (other_kind (says_assumption x) (says_rule z body) (λ e. omega arith)) d in
          ⊎_elim (λ there. ok.flat z body there rule)
          (λ (e : says_assumption x ≡ says_assumption z).
          let marked : is_marked old.heading.items x ≡ true
          = h.heading.all x (body, subst (λ n. Contains all (says_rule n body)) (sym (ap first_atom e)) rule) in
          let bad : true ≡ false = sym marked ∙ flat in cc)
          (Contains-push_cases all (says_assumption x) (says_assumption z) c);
    }

-- ---- a contrary more

-- the marks of atoms with contraries, with one of x more
opposed_next : (all : List Said) (x y line : ℕ) (old new : LineParts)
    → AreMarked old.opposed.items (λ z. (w : ℕ) × Contains all (says_contrary z w)) → x < length old.opposed.items
    → IsOpposedAgain x old new ⊎ IsFirstOpposed x line old new
    → AreMarked new.opposed.items (λ z. (w : ℕ) × Contains (all ++ says_contrary x y ∷ []) (says_contrary z w))
opposed_next all x y line old new h wide (inl again) =
    let s : Said = says_contrary x y in
    let P : ℕ → Type 0 = λ z. (w : ℕ) × Contains all (says_contrary z w) in
    let Q : ℕ → Type 0 = λ z. (w : ℕ) × Contains (all ++ s ∷ []) (says_contrary z w) in
    subst (λ ms. AreMarked ms Q) (sym again.opposed)
    (marks_kept old.opposed.items P Q h (λ z d. (d.0, kept all s (says_contrary z d.0) d.1))
    (λ z d. ⊎_elim (λ there. (d.0, there))
    (λ (e : says_contrary x y ≡ says_contrary z d.0). subst P (ap first_atom e) (h.marked x again.earlier))
    (Contains-push_cases all s (says_contrary z d.0) d.1)))
opposed_next all x y line old new h wide (inr first) =
    let s : Said = says_contrary x y in
    let P : ℕ → Type 0 = λ z. (w : ℕ) × Contains all (says_contrary z w) in
    let Q : ℕ → Type 0 = λ z. (w : ℕ) × Contains (all ++ s ∷ []) (says_contrary z w) in
    subst (λ ms. AreMarked ms Q) (sym first.opposed)
    (marks_more old.opposed.items x P Q h wide (y, newest all s) (λ z d. (d.0, kept all s (says_contrary z d.0) d.1))
    (λ z d. ⊎_elim (λ there. inl (d.0, there))
    (λ (e : says_contrary x y ≡ says_contrary z d.0). inr (sym (ap first_atom e)))
    (Contains-push_cases all s (says_contrary z d.0) d.1)))

opposed_long : (x line : ℕ) (old new : LineParts) → IsOpposedAgain x old new ⊎ IsFirstOpposed x line old new
    → length new.opposed.items ≡ length old.opposed.items
opposed_long x line old new (inl again) = ap length again.opposed
opposed_long x line old new (inr first) = ap length first.opposed ∙ length-set old.opposed.items x true

contrary_next : (count : ℕ) (all : List Said) (x y line : ℕ) (old new : LineParts) → IsSaidIn count all old
    → IsAtom count x → AddsContrary x y line old new → IsSaidIn count (all ++ says_contrary x y ∷ []) new
contrary_next count all x y line old new h atom a =
    let s : Said = says_contrary x y in
    let high = atom.high in
    let wide_is = h.wide.opposed in
    let wide : x < length old.opposed.items = omega arith in
    said_in_lists count (all ++ s ∷ []) new old.assumed.items old.heading.items new.opposed.items
    old.assumptions.items old.heads.items (old.contraries.items ++ (x, y) ∷ []) old.bodies.items a.assumed a.heading
    refl a.assumptions a.contraries a.heads a.bodies h.wide.assumed h.wide.heading
    (opposed_long x line old new a.marked ∙ wide_is)
    (assumed_kept all s old.assumed.items (λ e. omega arith) h.assumed)
    (heading_kept all s old.heading.items (λ e. omega arith) h.heading)
    (opposed_next all x y line old new h.opposed wide a.marked)
    (assumptions_kept all s old.assumptions.items (λ e. omega arith) (assumptions_in count all old h))
    (ap (λ cs. cs ++ (x, y) ∷ []) h.contraries ∙ sym (contraries_said-append all (s ∷ [])))
    (rules_kept all s old.heads.items old.bodies.items refl h.rules)

contrary_consistent : (count : ℕ) (all : List Said) (x y line : ℕ) (old new : LineParts) → IsSaidIn count all old
    → AddsContrary x y line old new → AreConsistent all → AreConsistent (all ++ says_contrary x y ∷ [])
contrary_consistent count all x y line old new h a ok =
    let s : Said = says_contrary x y in
    let few = ok.few in
    let room = a.few in
    let long : length old.contraries.items ≡ length (contraries_said all) = ap length h.contraries in
    let longer : length (contraries_said (all ++ s ∷ [])) ≡ length (contraries_said all) + 1
    = ap length (contraries_said-append all (s ∷ [])) ∙ length-append (contraries_said all) ((x, y) ∷ []) in
    record {
      few = subst (λ rs. length rs ≤ MAX_RULE_LINES) (sym (rules_stay all s refl)) few;
      few_contraries = omega arith;
      flat = λ z body c d. ok.flat z body
          (still all s (says_assumption z) (other_kind s (says_assumption z) (λ e. omega arith)) c)
          (still all s (says_rule z body) (other_kind s (says_rule z body) (λ e. omega arith)) d);
    }

-- ---- a rule more

rules_more : (rules : List (ℕ × List ℕ)) (heads : List ℕ) (bodies : List (ℕ × ℕ)) (head : ℕ) (body : List ℕ)
    → AreRulesIn rules heads bodies
    → AreRulesIn (rules ++ (head, body) ∷ []) (heads ++ head ∷ []) (bodies ++ map (λ y. (length heads, y)) body)
rules_more rules heads bodies head body h =
    let long : length heads ≡ length rules = ap length h.heads_are ∙ length-map rules (λ r. r.0) in
    let longer : length (rules ++ (head, body) ∷ []) ≡ length rules + 1 = length-append rules ((head, body) ∷ []) in
    let pairs : List (ℕ × ℕ) = map (λ y. (length heads, y)) body in
    record {
      heads_are = ap (λ hs. hs ++ head ∷ []) h.heads_are ∙ sym (map-append (λ r. r.0) rules ((head, body) ∷ []));
      within = λ k y c. ⊎_elim
          (λ there. let lt = h.within k y there in omega arith)
          (λ there.
          let from = image_from (λ z. let p : ℕ × ℕ = (length heads, z) in p) body (k, y) there in
          let e : length heads ≡ k = ap (λ p. p.0) from.2 in omega arith)
          (Contains-append_cases bodies pairs (k, y) c);
      bodies_are = λ k y d lt c. ⊎_elim
          (λ there.
          let lt' = h.within k y there in
          subst (λ r. Contains r.1 y) (sym (get_or_append_left rules ((head, body) ∷ []) d k lt'))
          (h.bodies_are k y d lt' there))
          (λ there.
          let from = image_from (λ z. let p : ℕ × ℕ = (length heads, z) in p) body (k, y) there in
          let e : k ≡ length rules = sym (ap (λ p. p.0) from.2) ∙ long in
          let at : get_or (rules ++ (head, body) ∷ []) k d ≡ (head, body)
          = ap (λ n. get_or (rules ++ (head, body) ∷ []) n d) e ∙ get_or-append_seam rules (head, body) [] d in
          subst (λ r. Contains r.1 y) (sym at) (subst (λ z. Contains body z) (ap (λ p. p.1) from.2) from.1))
          (Contains-append_cases bodies pairs (k, y) c);
      all = λ k y d lt c. ⊎_elim
          (λ (e : k ≡ length rules).
          let at : get_or (rules ++ (head, body) ∷ []) k d ≡ (head, body)
          = ap (λ n. get_or (rules ++ (head, body) ∷ []) n d) e ∙ get_or-append_seam rules (head, body) [] d in
          let there : Contains body y = subst (λ r. Contains r.1 y) at c in
          let pair : Contains pairs (length heads, y)
          = image_there (λ z. let p : ℕ × ℕ = (length heads, z) in p) body y there in
          Contains-append_right bodies pairs (k, y)
          (subst (λ n. Contains pairs (n, y)) (long ∙ sym e) pair))
          (λ ne.
          let lt' : k < length rules = omega (arith, ne) in
          Contains-append_left bodies pairs (k, y) (h.all k y d lt'
          (subst (λ r. Contains r.1 y) (get_or_append_left rules ((head, body) ∷ []) d k lt') c)))
          (cases_eq k (length rules));
    }

rule_next : (count : ℕ) (all : List Said) (head : ℕ) (body : List ℕ) (old new : LineParts) → IsSaidIn count all old
    → IsAtom count head → AddsRule head body old new → IsSaidIn count (all ++ says_rule head body ∷ []) new
rule_next count all head body old new h atom a =
    let s : Said = says_rule head body in
    let high = atom.high in
    let wide_is = h.wide.heading in
    let wide : head < length old.heading.items = omega arith in
    said_in_lists count (all ++ s ∷ []) new old.assumed.items (set old.heading.items head true) old.opposed.items
    old.assumptions.items (old.heads.items ++ head ∷ []) old.contraries.items
    (old.bodies.items ++ map (λ y. (length old.heads.items, y)) body) a.assumed a.heading a.opposed a.assumptions
    a.contraries a.heads a.bodies h.wide.assumed (length-set old.heading.items head true ∙ h.wide.heading)
    h.wide.opposed
    (assumed_kept all s old.assumed.items (λ e. omega arith) h.assumed)
    (marks_more old.heading.items head (λ z. (b : List ℕ) × Contains all (says_rule z b))
    (λ z. (b : List ℕ) × Contains (all ++ s ∷ []) (says_rule z b)) h.heading wide (body, newest all s)
    (λ z d. (d.0, kept all s (says_rule z d.0) d.1))
    (λ z d. ⊎_elim (λ there. inl (d.0, there))
    (λ (e : says_rule head body ≡ says_rule z d.0). inr (sym (ap first_atom e)))
    (Contains-push_cases all s (says_rule z d.0) d.1)))
    (opposed_kept all s old.opposed.items (λ e. omega arith) h.opposed)
    (assumptions_kept all s old.assumptions.items (λ e. omega arith) (assumptions_in count all old h))
    (h.contraries ∙ sym (contraries_stay all s refl))
    (subst (λ rs. AreRulesIn rs (old.heads.items ++ head ∷ [])
    (old.bodies.items ++ map (λ y. (length old.heads.items, y)) body)) (sym (rules_said-append all (s ∷ [])))
    (rules_more (rules_said all) old.heads.items old.bodies.items head body h.rules))

rule_consistent : (count : ℕ) (all : List Said) (head : ℕ) (body : List ℕ) (old new : LineParts) → IsSaidIn count all
    old
    → AddsRule head body old new → AreConsistent all → AreConsistent (all ++ says_rule head body ∷ [])
rule_consistent count all head body old new h a ok =
    let s : Said = says_rule head body in
    let few = a.few in
    let long : length old.heads.items ≡ length (rules_said all)
    = ap length h.rules.heads_are ∙ length-map (rules_said all) (λ r. r.0) in
    let rules : length (rules_said (all ++ s ∷ [])) ≡ length (rules_said all) + 1
    = ap length (rules_said-append all (s ∷ [])) ∙ length-append (rules_said all) ((head, body) ∷ []) in
    let few' = ok.few_contraries in
    record {
      few = omega arith;
      few_contraries = subst (λ cs. length cs ≤ MAX_CONTRARY_LINES) (sym (contraries_stay all s refl)) few';
      flat = λ z b c d.
          let assumed = still all s (says_assumption z) (other_kind s (says_assumption z) (λ e. omega arith)) c in
          ⊎_elim (λ there. ok.flat z b assumed there)
          (λ (e : says_rule head body ≡ says_rule z b).
          let marked : is_marked old.assumed.items head ≡ true
          = h.assumed.all head (subst (λ n. Contains all (says_assumption n)) (sym (ap first_atom e)) assumed) in
          let bad : true ≡ false = sym marked ∙ a.flat in cc)
          (Contains-push_cases all s (says_rule z b) d);
    }

-- ---- one thing more

-- what is said, with one thing more that is taken in
pub taken : (count : ℕ) (all : List Said) (s : Said) (line : ℕ) (old new : LineParts) → IsSaidIn count all old
    → ((x : ℕ) → Contains (atoms_of s) x → IsAtom count x) → Adds s line old new → IsSaidIn count (all ++ s ∷ []) new
taken count all (says_assumption x) line old new h atoms a =
    assumption_next count all x old new h (atoms x (0, omega arith, refl)) a
taken count all (says_contrary x y) line old new h atoms a =
    contrary_next count all x y line old new h (atoms x (0, omega arith, refl)) a
taken count all (says_rule head body) line old new h atoms a =
    rule_next count all head body old new h (atoms head (0, omega arith, refl)) a

pub consistent : (count : ℕ) (all : List Said) (s : Said) (line : ℕ) (old new : LineParts) → IsSaidIn count all old
    → ((x : ℕ) → Contains (atoms_of s) x → IsAtom count x) → Adds s line old new → AreConsistent all
    → AreConsistent (all ++ s ∷ [])
consistent count all (says_assumption x) line old new h atoms a ok =
    assumption_consistent count all x old h a.flat ok
consistent count all (says_contrary x y) line old new h atoms a ok =
    contrary_consistent count all x y line old new h a ok
consistent count all (says_rule head body) line old new h atoms a ok =
    rule_consistent count all head body old new h a ok

-- ---- room

-- an atom of a statement lies within the lists by atoms
pub wide_for : (count : ℕ) (line : List ℕ) (s : Said) (parts : LineParts) → AreWideFor count parts
    → SaysLine count line s → AreWide (first_atom s) parts
wide_for count line s parts h says =
    let atom = first_within s says in
    let high = atom.high in
    let e1 = h.assumed in
    let e2 = h.heading in
    let e3 = h.opposed in
    record { assumed = omega arith; heading = omega arith; opposed = omega arith }
  where
    first_within : (s : Said) → SaysLine count line s → IsAtom count (first_atom s)
    first_within (says_assumption x) says = atoms_within count line (says_assumption x) says x (0, omega arith, refl)
    first_within (says_contrary x y) says = atoms_within count line (says_contrary x y) says x (0, omega arith, refl)
    first_within (says_rule head body) says =
        atoms_within count line (says_rule head body) says head (0, omega arith, refl)
