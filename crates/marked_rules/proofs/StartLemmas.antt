-- The state that all searches begin with.
use Rattle.std.proofs.Common.{◌≡◌, ℕ, ◌+◌, ◌<◌, ◌≤◌, ◌^◌, Bool, true, false, List, [], ◌∷◌, ◌++◌, length, get_or, map, take, replicate, arith, sym, subst, ap, ◌∙◌, ⊎_elim, eqb}
use Rattle.std.specs.Prelude.{◌↔◌, Contains, IsTrue, count_by}
use Rattle.std.proofs.lemmas.Bool.{cases_Bool, cases_eq, false≢true}
use Rattle.std.proofs.lemmas.List.{length-map, length-replicate, get_or-map, take_more, take_all}
use Rattle.std.proofs.lemmas.List.Elements.{Contains-get_or, Contains-append_cases, Contains-append_left, Contains-append_right}
use Rattle.lists.proofs.Images.{image_from, image_there}
use Rattle.lists.proofs.Membership.{Contains-nil}
use Rattle.dung_notions.specs.attack_index.specs.Offsets.{AreBelow}
use Rattle.dung_notions.specs.attack_index.specs.PairOrder.{PairsRise, reversed}
use Rattle.semantics.specs.declared.numbers.TheConstants.{MAX_RULE}
use Rattle.semantics.specs.Rules.{Rule, Derives}
use Rattle.semantics.specs.AbaFrameworks.{Aba, IsNumberedAba}
use Rattle.aba_laws.proofs.DerivationLemmas.{derives_from}
use Rattle.aba_notions.specs.Storage.{AreTabled, no_rule, rule_at}
use Rattle.aba_notions.specs.Closing.{IsMarked}
use Rattle.aba_notions.proofs.ClosingLemmas.{begins, none_marked, counts_uses}
use Rattle.aba_notions.proofs.TableLemmas.{rising_few}
use Rattle.marked_rules.specs.declared.closing.Closing.{Closing}
use Rattle.marked_rules.specs.declared.rule_uses.RuleUses.{RuleUses}
use Rattle.marked_rules.specs.Search.{IsState, IsUsesOf, IsBegun, IsSearch, IsAtStart, GoesOnTo, Nothing, heads_of, derived_in, open_in}
use Rattle.marked_rules.proofs.OverlaidLemmas.{length_overlaid}
use Rattle.marked_rules.proofs.SearchLemmas.{gives_more, begins_at, starts_afresh}

-- ---- bounds

-- there are no more rules than numbers for them
pub few_rules : (f : Aba) → IsNumberedAba f → length f.rules ≤ MAX_RULE
few_rules f ok =
    let bounded : (n : ℕ) → Contains (map (λ (r : Rule). r.number) f.rules) n → (1 ≤ n) × (n < f.next) = λ n c.
    (let from = image_from (λ (r : Rule). r.number) f.rules n c in
    let is = ok.form.rules_are from.0 from.1 in
    (subst (λ m. 1 ≤ m) from.2 is.low, subst (λ m. m < f.next) from.2 is.given)) in
    let few = rising_few (map (λ (r : Rule). r.number) f.rules) f.next ok.form.numbers_rise bounded ok.form.next_is in
    omega (arith, few, length-map f.rules (λ (r : Rule). r.number), ok.rules)

-- ---- pairs of rules and atoms of their bodies

-- exactly those of the first n rules
pub record ArePairs (f : Aba) (n : ℕ) (pairs : List (ℕ × ℕ)) : Type 0 where
  pub each : (k y : ℕ) → Contains pairs (k, y) ↔ ((k < n) × (k < length f.rules) × Contains (rule_at f.rules k).body y)

pub pairs_none : (f : Aba) (pairs : List (ℕ × ℕ)) → pairs ≡ [] → ArePairs f 0 pairs
pairs_none f pairs is = record {
  each = λ k y. (
    λ c. absurd (Contains-nil (k, y) (subst (λ l. Contains l (k, y)) is c)),
    λ w. absurd (omega (arith, w.0)),
  );
}

pub pairs_more : (f : Aba) (n : ℕ) (body old new : List (ℕ × ℕ)) → n < length f.rules
    → map (λ (p : ℕ × ℕ). p.1) body ≡ (rule_at f.rules n).body
    → ((p : ℕ × ℕ) → Contains body p → p.0 ≡ n) → new ≡ old ++ body → ArePairs f n old → ArePairs f (n + 1) new
pairs_more f n body old new lt is at made before = record {
  each = λ k y. (
    λ c. ⊎_elim (λ was. let w = (before.each k y).0 was in (omega (arith, w.0), w.1, w.2))
        (λ here. let e : k ≡ n = at (k, y) here in (
          omega (arith, e),
          omega (arith, e, lt),
          subst (λ j. Contains (rule_at f.rules j).body y) (sym e)
              (subst (λ l. Contains l y) is (image_there (λ (p : ℕ × ℕ). p.1) body (k, y) here)),
        )) (Contains-append_cases old body (k, y) (subst (λ l. Contains l (k, y)) made c)),
    λ w. subst (λ l. Contains l (k, y)) (sym made) (⊎_elim
        (λ (e : k ≡ n).
        let there : Contains (map (λ (p : ℕ × ℕ). p.1) body) y =
        subst (λ l. Contains l y) (sym is) (subst (λ j. Contains (rule_at f.rules j).body y) e w.2) in
        let from = image_from (λ (p : ℕ × ℕ). p.1) body y there in
        Contains-append_right old body (k, y) (subst (λ z. Contains body (k, z)) from.2
        (subst (λ j. Contains body (j, from.0.1)) (at from.0 from.1 ∙ sym e) from.1)))
        (λ ne. Contains-append_left old body (k, y) ((before.each k y).1 (omega (arith, w.0, ne), w.1, w.2)))
        (cases_eq k n)),
  );
}

pub pairs_all : (f : Aba) (n : ℕ) (pairs : List (ℕ × ℕ)) → length f.rules ≤ n → ArePairs f n pairs → (k y : ℕ)
    → Contains pairs (k, y) ↔ ((k < length f.rules) × Contains (rule_at f.rules k).body y)
pairs_all f n pairs end are k y = (
  λ c. let w = (are.each k y).0 c in (w.1, w.2),
  λ w. (are.each k y).1 (omega (arith, w.0, end), w.0, w.1),
)

-- ---- bounds of pairs

pub low_contraries : (f : Aba) (bound : ℕ) (pairs : List (ℕ × ℕ)) → IsNumberedAba f → f.atoms < bound
    → pairs ≡ f.contraries → AreBelow bound pairs
low_contraries f bound pairs form high is p c =
    let w = form.form.contraries_are p.0 p.1 (subst (λ l. Contains l p) is c) in
    (omega (arith, high, (form.form.assumptions_are p.0 w.0).high), omega (arith, high, w.1.high))

pub low_pairs : (f : Aba) (bound : ℕ) (pairs : List (ℕ × ℕ)) → IsNumberedAba f → f.atoms < bound
    → length f.rules ≤ bound
    → ((k y : ℕ) → Contains pairs (k, y) ↔ ((k < length f.rules) × Contains (rule_at f.rules k).body y))
    → AreBelow bound pairs
low_pairs f bound pairs form high reach are p c =
    let w = (are p.0 p.1).0 c in
    let there = Contains-get_or f.rules p.0 no_rule w.0 in (
      omega (arith, w.0, reach),
      omega (arith, high, ((form.form.rules_are (rule_at f.rules p.0) there).body p.1 w.1).high),
    )

-- ---- nothing is derived yet

pub tables : (f : Aba) (pairs bodies uses : List (ℕ × ℕ))
    → ((k y : ℕ) → Contains pairs (k, y) ↔ ((k < length f.rules) × Contains (rule_at f.rules k).body y))
    → ((p : ℕ × ℕ) → Contains bodies p ↔ Contains pairs p)
    → ((p : ℕ × ℕ) → Contains uses (reversed p) ↔ Contains bodies p) → AreTabled f.rules (heads_of f) uses
tables f pairs bodies uses are same back =
    let long : length (heads_of f) ≡ length f.rules = length-map f.rules (λ (r : Rule). r.head) in
    record {
      long = sym long;
      heads_are = λ k lt. sym (get_or-map (λ (r : Rule). r.head) f.rules k no_rule 0 (omega (arith, lt, long)));
      bodies_are = λ k y lt. (
        λ c. (back (k, y)).1 ((same (k, y)).1 ((are k y).1 (omega (arith, lt, long), c))),
        λ c. ((are k y).0 ((same (k, y)).0 ((back (k, y)).0 c))).1,
      );
      within = λ y k c. omega (arith, long, ((are k y).0 ((same (k, y)).0 ((back (k, y)).0 c))).0);
    }

pub has_begun : (f : Aba) (u : RuleUses) (bound : ℕ) (pairs bodies : List (ℕ × ℕ)) → IsNumberedAba f
    → ((p : ℕ × ℕ) → Contains u.contraries.pairs p ↔ Contains f.contraries p)
    → ((k y : ℕ) → Contains pairs (k, y) ↔ ((k < length f.rules) × Contains (rule_at f.rules k).body y))
    → ((p : ℕ × ℕ) → Contains bodies p ↔ Contains pairs p) → PairsRise bodies
    → ((p : ℕ × ℕ) → Contains u.uses.pairs (reversed p) ↔ Contains bodies p) → PairsRise u.uses.pairs
    → u.start.base.items ≡ replicate (f.atoms + 1) false → length u.start.open.items ≡ bound
    → length f.rules ≤ bound → bound ≤ 2 ^ 32
    → ((k : ℕ) → get_or u.start.open.items k 0 ≡ count_by (λ p. eqb p.0 k) bodies) → IsBegun f u
has_begun f u bound pairs bodies form contraries are same up back down base size reach low counted =
    let tabled = tables f pairs bodies u.uses.pairs are same back in
    let long : length (heads_of f) ≡ length f.rules = length-map f.rules (λ (r : Rule). r.head) in
    let wide : length u.start.base.items ≡ f.atoms + 1 =
    ap length base ∙ length-replicate (f.atoms + 1) false in
    let none : (x : ℕ) → IsMarked u.start.base.items x → ⊥ = λ x m.
    none_marked f.rules (heads_of f) u.uses.pairs (f.atoms + 1) x (subst (λ l. IsMarked l x) base m) in
    let state = begins f.rules (heads_of f) u.uses.pairs (f.atoms + 1) u.start.open.items tabled
    (λ k lt. let there = Contains-get_or f.rules k no_rule (omega (arith, lt, long)) in
    omega (arith, tabled.heads_are k lt, (form.form.rules_are (rule_at f.rules k) there).head.high))
    (λ y k c. let w = (are k y).0 ((same (k, y)).0 ((back (k, y)).0 c)) in
    omega (arith, ((form.form.rules_are (rule_at f.rules k) (Contains-get_or f.rules k no_rule w.0)).body y w.1).high))
    (omega (arith, long, size, reach))
    (λ k. counted k ∙ counts_uses bodies u.uses.pairs up down back k) in
    record {
      of = record { form = form; contraries_are = contraries; wide = wide };
      few = record { atoms = omega (arith, wide, form.atoms); rules = omega (arith, size, low) };
      none = none;
      state = gives_more f.rules (heads_of f) u.uses.pairs (IsMarked u.start.base.items) Nothing 0 u.start.base.items
          u.start.open.items [] (λ x m. absurd (none x m))
          (subst (λ l. IsState f u (IsMarked l) 0 l u.start.open.items []) (sym base) state);
    }

-- ---- what follows from nothing

module _ (f : Aba) (u : RuleUses) where
  pub begins_with : (c : Closing) → IsBegun f u → IsAtStart u c → IsSearch f u (IsMarked (derived_in u c)) 0 c
  begins_with c begun at = starts_afresh f u Nothing 0 c (begins_at f u Nothing 0 c at begun.state)

  -- what a search along all rules has come to is the start of others
  pub starts : (u' : RuleUses) (first between last : Closing) → IsBegun f u → IsAtStart u first
      → GoesOnTo f u (length (heads_of f)) first between → GoesOnTo f u (length (heads_of f)) between last
      → last.pending.items ≡ [] → u'.uses ≡ u.uses → u'.contraries ≡ u.contraries
      → u'.start.base.items ≡ derived_in u last → u'.start.open.items ≡ open_in u last → IsUsesOf f u'
  starts u' first between last begun at one two done uses contraries base counts =
      let sound : (x : ℕ) → IsMarked (derived_in u between) x → Derives f.rules Nothing x = λ x m.
      derives_from f.rules (IsMarked (derived_in u first)) Nothing
      (λ y k. absurd (begun.none y (subst (λ l. IsMarked l y) at.derived k))) x (one.search.state.sound x m) in
      let state = gives_more f.rules (heads_of f) u.uses.pairs (IsMarked (derived_in u between)) Nothing
      (length (heads_of f)) (derived_in u last) (open_in u last) last.pending.items sound two.search.state in
      record {
        of = record {
          form = begun.of.form;
          contraries_are = λ p. rw contraries (begun.of.contraries_are p);
          wide = ap length base ∙ two.wide ∙ one.wide ∙ ap length at.derived ∙ begun.of.wide;
        };
        state = rw (uses, base, counts) (rw done at state);
      }

-- ---- lists that are written out

-- the first n of a list
pub written_more : {A : Type 0} (d : A) (all : List A) (n : ℕ) (old new : List A) (x : A) → n < length all
    → old ≡ take n all → x ≡ get_or all n d → new ≡ old ++ x ∷ [] → new ≡ take (n + 1) all
written_more d all n old new x lt before at made =
    made ∙ ap (λ l. l ++ x ∷ []) before ∙ ap (λ y. take n all ++ y ∷ []) at ∙ sym (take_more all n d lt)

pub written_all : {A : Type 0} (all : List A) (n : ℕ) (made : List A) → length all ≤ n → made ≡ take n all → made ≡ all
written_all all n made end is = is ∙ take_all n all end

-- it has each atom of the table
pub derived_long : (u : RuleUses) (c : Closing) → length (derived_in u c) ≡ length u.start.base.items
derived_long u c = length_overlaid true u.start.base.items c.derived (λ j. true)

-- what a test of an atom says of the list
pub tells_derived : (derived : List Bool) (x : ℕ) (r : Bool) → x < length derived
    → (IsTrue r ↔ IsMarked derived x) → r ≡ get_or derived x true
tells_derived derived x r lt test =
    ⊎_elim (λ (t : get_or derived x true ≡ true). test.1 (record { within = lt; marked = t }) ∙ sym t)
    (λ (o : get_or derived x true ≡ false). ⊎_elim
    (λ (e : r ≡ true). absurd (false≢true (sym o ∙ (test.0 e).marked)))
    (λ (e : r ≡ false). e ∙ sym o) (cases_Bool r))
    (cases_Bool (get_or derived x true))
