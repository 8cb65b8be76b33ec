-- The frameworks behind the edits are in form.
use Rattle.std.proofs.Common.{Result, Ok, Err, IfOk, ◌≡◌, ◌<◌, ◌≤◌, ◌+◌, ℕ, false, not, List, [], ◌∷◌, ◌++◌, refl}
use Rattle.std.proofs.Common.{ap, sym, subst, ◌∙◌, map, get_or, arith, ⊎_elim, inl, inr}
use Rattle.std.specs.Prelude.{Contains, ◌↔◌, ◌≢◌, ◌==◌, nat_le, nat_lt, ◌&&◌}
use Rattle.std.specs.List.{AllPairs}
use Rattle.std.specs.List.Sorted.{IsStrictlyIncreasing}
use Rattle.std.proofs.lemmas.Bool.{false≢true, eqb-true, leb-true, lt-ltb, not-false, not_from_false, cases_lt}
use Rattle.std.proofs.lemmas.List.{map_push}
use Rattle.std.proofs.lemmas.List.Elements.{Contains-push_cases, Contains-get_or}
use Rattle.std.proofs.lemmas.List.Kept.{IsStrictlyIncreasing-filter}
use Rattle.lists.proofs.Filters.{Contains-filter, filter_whole}
use Rattle.lists.proofs.Membership.{Contains-nil, Contains-head, Contains-tail, Contains-cons_cases}
use Rattle.set_lists.proofs.Rising.{rises_append}
use Rattle.semantics.specs.declared.numbers.TheConstants.{MAX_RULE}
use Rattle.semantics.specs.Rules.{Rule}
use Rattle.semantics.specs.Framework.{IsPairBefore}
use Rattle.semantics.specs.AbaFrameworks.{Aba, IsAtom, IsRuleOf, IsNumberedAba}
use Rattle.aba_notions.specs.Storage.{AreContraries, aba_of}
use Rattle.edit_rules.specs.declared.effect.EditFault.TheVariants.{NotFlat, OutOfRange}
use Rattle.edit_rules.specs.Numbers.{has_number}
use Rattle.edit_rules.specs.Pairs.{with_pair, without_pair}
use Rattle.edit_rules.specs.Refusals.{refused_if, NoneStands}
use Rattle.edit_rules.proofs.EditWordTests.{absent, both_gives, is_false, number_there}
use Rattle.edit_rules.proofs.NumberLists.{with_number_rises, with_number_members}
use Rattle.edit_rules.specs.AbaEdits.{beyond, in_order, heads_of, numbers_of, next_rule, rules_but, with_contrary}
use Rattle.edit_rules.specs.AbaEdits.{aba_with_assumption, aba_without_assumption, aba_with_contrary}
use Rattle.edit_rules.specs.AbaEdits.{aba_with_pair, aba_without_pair, aba_with_rule, aba_without_rule}
use Rattle.edit_rules.specs.AbaEdits.{assumption_added, contrary_set, contrary_added, rule_added}
use Rattle.edit_rules.proofs.RefusalLemmas.{each_passes, each_stands_not, parts_stand_not}
use Rattle.edit_rules.proofs.ContraryLists.{filter-map, not_from, with_contrary_rises, without_contrary_rises}
use Rattle.edit_rules.proofs.ContraryLists.{with_contrary_members, without_contrary_members}
use Rattle.edit_rules.proofs.PairLists.{with_pair_rises, with_pair_members, without_pair_rises, without_pair_members}
use Rattle.lists.proofs.Images.{image_there, image_from}

-- ---- bodies

pub in_order_rises : (xs : List ℕ) → IsStrictlyIncreasing (in_order xs)
in_order_rises [] = λ k lt. absurd (omega arith)
in_order_rises (x ∷ xs) = with_number_rises x (in_order xs) (in_order_rises xs)

pub in_order_members : (xs : List ℕ) (y : ℕ) → Contains (in_order xs) y ↔ Contains xs y
in_order_members [] y = (λ c. c, λ c. c)
in_order_members (x ∷ xs) y =
    let rest = in_order_members xs y in
    let first = with_number_members x (in_order xs) y in (
      λ c. ⊎_elim (λ d. Contains-tail x xs y (rest.0 d)) (λ (e : y ≡ x). Contains-head x xs y (sym e)) (first.0 c),
      λ c. first.1 (⊎_elim (λ (e : x ≡ y). inr (sym e)) (λ d. inl (rest.1 d)) (Contains-cons_cases x xs y c)),
    )

-- ---- ranges

pub in_range : (low high x : ℕ) → (beyond low high x).stands ≡ false → (low ≤ x) × (x ≤ high)
in_range low high x h =
    let both = both_gives (nat_le low x) (nat_le x high) (not-false (nat_le low x && nat_le x high) h) in
    (leb-true low x both.0, leb-true x high both.1)

pub is_atom : (atoms x : ℕ) → (beyond 1 atoms x).stands ≡ false → IsAtom atoms x
is_atom atoms x h = let r = in_range 1 atoms x h in record { low = r.0; high = r.1 }

-- the contrary of a new pair, which isn't 0
contrary_is : (atoms c d : ℕ) → c ≤ atoms → c ≢ 0 → d ≡ c → IsAtom atoms d
contrary_is atoms c d bound some e =
    subst (IsAtom atoms) (sym e) (record {
      low = ⊎_elim (λ (lt : c < 1). absurd (some (omega arith))) (λ ge. ge) (cases_lt c 1);
      high = bound;
    })

-- ---- forms

-- a rule of a framework is one of another with the same atoms that has given as many numbers, where its head is no
-- assumption
still_rule : (f g : Aba) (r : Rule) → f.atoms ≡ g.atoms → f.next ≤ g.next → (Contains g.assumptions r.head → ⊥)
    → IsRuleOf f r → IsRuleOf g r
still_rule f g r atoms next flat old = record {
  low = old.low;
  given = let given = old.given in omega arith;
  head = subst (λ n. IsAtom n r.head) atoms old.head;
  flat = flat;
  body_rises = old.body_rises;
  body = λ y c. subst (λ n. IsAtom n y) atoms (old.body y c);
}

with_assumption_fits : (f : Aba) (a c : ℕ) → IsNumberedAba f → IsAtom f.atoms a → c ≤ f.atoms
    → (Contains (heads_of f.rules) a → ⊥) → IsNumberedAba (aba_with_assumption f a c)
with_assumption_fits f a c ok atom bound free = record {
  form = record {
    assumptions_rise = with_number_rises a f.assumptions ok.form.assumptions_rise;
    assumptions_are = λ b d. ⊎_elim (λ h. ok.form.assumptions_are b h)
        (λ (e : b ≡ a). subst (IsAtom f.atoms) (sym e) atom)
        ((with_number_members a f.assumptions b).0 d);
    contraries_rise = with_contrary_rises a c f.contraries ok.form.contraries_rise;
    contraries_are = λ b d h. ⊎_elim
        (λ l. let old = ok.form.contraries_are b d ((without_contrary_members a f.contraries (b, d)).0 l).0 in
        ((with_number_members a f.assumptions b).1 (inl old.0), old.1))
        (λ (e : ((b, d) ≡ (a, c)) × (c ≢ 0)). (
          (with_number_members a f.assumptions b).1 (inr (ap (λ p. p.0) e.0)),
          contrary_is f.atoms c d bound e.1 (ap (λ p. p.1) e.0),
        ))
        ((with_contrary_members a c f.contraries (b, d)).0 h);
    numbers_rise = ok.form.numbers_rise;
    rules_are = λ r h. let old = ok.form.rules_are r h in
        still_rule f (aba_with_assumption f a c) r refl (omega arith) (λ d. ⊎_elim (λ l. old.flat l)
        (λ (e : r.head ≡ a). free
        (subst (Contains (heads_of f.rules)) e (image_there (λ (q : Rule). q.head) f.rules r h)))
        ((with_number_members a f.assumptions r.head).0 d)) old;
    next_is = ok.form.next_is;
  };
  atoms = ok.atoms;
  rules = ok.rules;
}

pub with_assumption_form : (f : Aba) (a c : ℕ) → IsNumberedAba f → NoneStands (assumption_added f a c).refusals
    → IsNumberedAba (aba_with_assumption f a c)
with_assumption_form f a c ok none =
    let h = each_passes (assumption_added f a c).refusals none in
    with_assumption_fits f a c ok (is_atom f.atoms a h.0) (in_range 0 f.atoms c h.1.0).1
    (absent (heads_of f.rules) a h.1.1.1.0)

pub without_assumption_form : (f : Aba) (a : ℕ) → IsNumberedAba f → IsNumberedAba (aba_without_assumption f a)
without_assumption_form f a ok = record {
  form = record {
    assumptions_rise = IsStrictlyIncreasing-filter (λ b. not (b == a)) f.assumptions ok.form.assumptions_rise;
    assumptions_are = λ b d. ok.form.assumptions_are b ((Contains-filter (λ b. not (b == a)) f.assumptions b).0 d).0;
    contraries_rise = without_contrary_rises a f.contraries ok.form.contraries_rise;
    contraries_are = λ b d h. let l = (without_contrary_members a f.contraries (b, d)).0 h in
        let old = ok.form.contraries_are b d l.0 in (
          (Contains-filter (λ b. not (b == a)) f.assumptions b).1 (old.0, not_from a (b, d) l.1),
          old.1,
        );
    numbers_rise = ok.form.numbers_rise;
    rules_are = λ r h. let old = ok.form.rules_are r h in
        still_rule f (aba_without_assumption f a) r refl (omega arith)
        (λ d. old.flat ((Contains-filter (λ b. not (b == a)) f.assumptions r.head).0 d).0) old;
    next_is = ok.form.next_is;
  };
  atoms = ok.atoms;
  rules = ok.rules;
}

-- ---- contraries

-- a framework with other pairs of an assumption and an atom
with_contraries_form : (f : Aba) (ps : List (ℕ × ℕ)) → IsNumberedAba f → AllPairs IsPairBefore ps
    → AreContraries f.atoms f.assumptions ps → IsNumberedAba (aba_of f.atoms f.assumptions ps f.rules f.next)
with_contraries_form f ps ok rise are = record {
  form = record {
    assumptions_rise = ok.form.assumptions_rise;
    assumptions_are = ok.form.assumptions_are;
    contraries_rise = rise;
    contraries_are = are;
    numbers_rise = ok.form.numbers_rise;
    rules_are = λ r h. let old = ok.form.rules_are r h in
        still_rule f (aba_of f.atoms f.assumptions ps f.rules f.next) r refl (omega arith) old.flat old;
    next_is = ok.form.next_is;
  };
  atoms = ok.atoms;
  rules = ok.rules;
}

pub with_contrary_form : (f : Aba) (a c : ℕ) → IsNumberedAba f → NoneStands (contrary_set f a c).refusals
    → IsNumberedAba (aba_with_contrary f a c)
with_contrary_form f a c ok none =
    let h = each_passes (contrary_set f a c).refusals none in
    let there = number_there f.assumptions a (not-false (has_number f.assumptions a) h.1.1.0) in
    with_contraries_form f (with_contrary a c f.contraries) ok
    (with_contrary_rises a c f.contraries ok.form.contraries_rise) (λ b d m. ⊎_elim
    (λ l. ok.form.contraries_are b d ((without_contrary_members a f.contraries (b, d)).0 l).0)
    (λ (e : ((b, d) ≡ (a, c)) × (c ≢ 0)). (
      subst (Contains f.assumptions) (sym (ap (λ p. p.0) e.0)) there,
      contrary_is f.atoms c d (in_range 0 f.atoms c h.1.0).1 e.1 (ap (λ p. p.1) e.0),
    ))
    ((with_contrary_members a c f.contraries (b, d)).0 m))

pub with_pair_form : (f : Aba) (a c : ℕ) → IsNumberedAba f → NoneStands (contrary_added f a c).refusals
    → IsNumberedAba (aba_with_pair f a c)
with_pair_form f a c ok none =
    let h = each_passes (contrary_added f a c).refusals none in
    let there = number_there f.assumptions a (not-false (has_number f.assumptions a) h.1.1.0) in
    with_contraries_form f (with_pair (a, c) f.contraries) ok
    (with_pair_rises (a, c) f.contraries ok.form.contraries_rise) (λ b d m. ⊎_elim (λ l. ok.form.contraries_are b d l)
    (λ (e : (b, d) ≡ (a, c)). (
      subst (Contains f.assumptions) (sym (ap (λ p. p.0) e)) there,
      subst (IsAtom f.atoms) (sym (ap (λ p. p.1) e)) (is_atom f.atoms c h.1.0),
    ))
    ((with_pair_members (a, c) f.contraries (b, d)).0 m))

pub without_pair_form : (f : Aba) (a c : ℕ) → IsNumberedAba f → IsNumberedAba (aba_without_pair f a c)
without_pair_form f a c ok = with_contraries_form f (without_pair (a, c) f.contraries) ok
    (without_pair_rises (a, c) f.contraries ok.form.contraries_rise)
    (λ b d m. ok.form.contraries_are b d ((without_pair_members (a, c) f.contraries (b, d)).0 m).0)

-- ---- rules

below_next : (f : Aba) → IsNumberedAba f → (n : ℕ) → Contains (numbers_of f.rules) n → n < f.next
below_next f ok n c =
    let from = image_from (λ (r : Rule). r.number) f.rules n c in
    subst (λ m. m < f.next) from.2 (ok.form.rules_are from.0 from.1).given

pub room_for : (f : Aba) → nat_lt MAX_RULE f.next ≡ false → f.next ≤ MAX_RULE
room_for f free =
    ⊎_elim (λ lt. absurd (false≢true (sym free ∙ lt-ltb MAX_RULE f.next lt))) (λ ge. ge) (cases_lt MAX_RULE f.next)

numbers_with : (f : Aba) (h : ℕ) (body : List ℕ) → IsNumberedAba f
    → IsStrictlyIncreasing (numbers_of (f.rules ++ next_rule f h body ∷ []))
numbers_with f h body ok =
    subst IsStrictlyIncreasing (sym (map_push (λ (r : Rule). r.number) f.rules (next_rule f h body)))
    (rises_append (numbers_of f.rules) (f.next ∷ []) ok.form.numbers_rise (λ k lt. absurd (omega arith)) (λ x y cx cy.
    ⊎_elim (λ (e : f.next ≡ y). subst (λ m. x < m) e (below_next f ok x cx)) (λ d. absurd (Contains-nil y d))
    (Contains-cons_cases f.next [] y cy)))

-- what a rule's atoms are where the edit that adds it isn't refused
pub record IsRuleFor (f : Aba) (h : ℕ) (items : List ℕ) : Type 0 where
  pub head : IsAtom f.atoms h
  pub body : (y : ℕ) → Contains items y → IsAtom f.atoms y
  pub flat : Contains f.assumptions h → ⊥
  pub room : f.next ≤ MAX_RULE

pub rule_for : (f : Aba) (h : ℕ) (items : List ℕ) → NoneStands (rule_added f h items).refusals → IsRuleFor f h items
rule_for f h items none =
    let tests = map (beyond 1 f.atoms) (h ∷ items) in
    let rest = refused_if (has_number f.assumptions h) (NotFlat h)
    ∷ refused_if (nat_lt MAX_RULE f.next) (OutOfRange (MAX_RULE + 1)) ∷ [] in
    let parts = parts_stand_not tests rest none in
    let each = each_passes rest parts.1 in record {
      head = is_atom f.atoms h
          (each_stands_not (beyond 1 f.atoms) (h ∷ items) parts.0 h (Contains-head h items h refl));
      body = λ y c. is_atom f.atoms y
          (each_stands_not (beyond 1 f.atoms) (h ∷ items) parts.0 y (Contains-tail h items y c));
      flat = absent f.assumptions h each.0;
      room = room_for f each.1.0;
    }

pub with_rule_form : (f : Aba) (h : ℕ) (body : List ℕ) → IsNumberedAba f → NoneStands (rule_added f h body).refusals
    → IsNumberedAba (aba_with_rule f h body)
with_rule_form f h body ok none = record {
  form = record {
    assumptions_rise = ok.form.assumptions_rise;
    assumptions_are = ok.form.assumptions_are;
    contraries_rise = ok.form.contraries_rise;
    contraries_are = ok.form.contraries_are;
    numbers_rise = numbers_with f h body ok;
    rules_are = λ r c. ⊎_elim (λ d. old r d) (λ (e : next_rule f h body ≡ r). subst (IsRuleOf behind) e new)
        (Contains-push_cases f.rules (next_rule f h body) r c);
    next_is = omega arith;
  };
  atoms = ok.atoms;
  rules = let room : f.next ≤ MAX_RULE = is.room in omega arith;
}
  where
    is : IsRuleFor f h body
    is = rule_for f h body none

    behind : Aba
    behind = aba_with_rule f h body

    old : (r : Rule) → Contains f.rules r → IsRuleOf behind r
    old r d = let o = ok.form.rules_are r d in still_rule f behind r refl (omega arith) o.flat o

    new : IsRuleOf behind (next_rule f h body)
    new = record {
      low = ok.form.next_is;
      given = omega arith;
      head = is.head;
      flat = is.flat;
      body_rises = in_order_rises body;
      body = λ y c. is.body y ((in_order_members body y).0 c);
    }

pub without_rule_form : (f : Aba) (n : ℕ) → IsNumberedAba f → IsNumberedAba (aba_without_rule f n)
without_rule_form f n ok = record {
  form = record {
    assumptions_rise = ok.form.assumptions_rise;
    assumptions_are = ok.form.assumptions_are;
    contraries_rise = ok.form.contraries_rise;
    contraries_are = ok.form.contraries_are;
    numbers_rise = subst IsStrictlyIncreasing (filter-map (λ (r : Rule). r.number) (λ m. not (m == n)) f.rules)
        (IsStrictlyIncreasing-filter (λ m. not (m == n)) (numbers_of f.rules) ok.form.numbers_rise);
    rules_are = λ r c. let o = ok.form.rules_are r ((Contains-filter (λ q. not (q.number == n)) f.rules r).0 c).0 in
        still_rule f (aba_without_rule f n) r refl (omega arith) o.flat o;
    next_is = ok.form.next_is;
  };
  atoms = ok.atoms;
  rules = ok.rules;
}

-- no rule has the number 0
pub all_rules : (f : Aba) → IsNumberedAba f → rules_but 0 f.rules ≡ f.rules
all_rules f ok = filter_whole (λ r. not (r.number == 0)) f.rules (λ k d lt.
    let low = (ok.form.rules_are (get_or f.rules k d) (Contains-get_or f.rules k d lt)).low in
    not_from_false ((get_or f.rules k d).number == 0) (is_false ((get_or f.rules k d).number == 0)
    (λ t. absurd (omega (arith, low, eqb-true (get_or f.rules k d).number 0 t)))))

pub without_no_rule : (f : Aba) → IsNumberedAba f → aba_without_rule f 0 ≡ f
without_no_rule f ok = ap (λ rules. record {
  atoms = f.atoms;
  assumptions = f.assumptions;
  contraries = f.contraries;
  rules = rules;
  next = f.next;
}) (all_rules f ok)

pub copied : {E : Type 0} (f : Aba) (result : Result Aba E) → IsNumberedAba f
    → IfOk result (λ g. g ≡ aba_without_rule f 0) → IfOk result (λ g. g ≡ f)
copied f (Ok g) ok is = is ∙ without_no_rule f ok
copied f (Err fault) ok is = is
