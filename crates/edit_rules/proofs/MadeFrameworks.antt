-- A framework that is made of the flat lists of another's parts is that one.
use Rattle.std.proofs.Common.{◌≡◌, ◌<◌, ◌≤◌, ℕ, List, Result, Ok, Err, IfOk, length, get_or, ap, sym, subst}
use Rattle.std.proofs.Common.{◌∙◌, arith}
use Rattle.std.specs.Prelude.{Contains, ◌↔◌}
use Rattle.std.specs.List.Sorted.{IsStrictlyIncreasing}
use Rattle.std.proofs.lemmas.List.{ext_get_or, get_or-map, length-map}
use Rattle.std.proofs.lemmas.List.Elements.{Contains-get_or}
use Rattle.semantics.specs.declared.numbers.TheConstants.{MAX_RULE}
use Rattle.semantics.specs.Rules.{Rule}
use Rattle.semantics.specs.AbaFrameworks.{Aba, IsAtom, IsNumberedAba}
use Rattle.aba_notions.specs.declared.rule_table.RuleLists.{RuleLists}
use Rattle.aba_notions.specs.Storage.{AreParts, AreContraries, AreRuleLists, AreRulesOf, aba_of, no_rule, rule_at}
use Rattle.aba_notions.proofs.TableLemmas.{rising_few}
use Rattle.edit_rules.specs.AbaEdits.{heads_of, numbers_of}
use Rattle.semantics.specs.Framework.{IsPairBefore}
use Rattle.edit_rules.specs.Parts.{AreListsOf, HasContraries}
use Rattle.edit_rules.proofs.RisingLists.{pairs_asymmetric}
use Rattle.lists.proofs.RisingLists.{IsAsymmetric, same_lists, same_rising}
use Rattle.lists.proofs.Images.{image_from}

-- ---- lists with keys that rise

pub keys_asymmetric : {X : Type 0} (key : X → ℕ) → IsAsymmetric {X = X} (λ x y. key x < key y)
keys_asymmetric key x y a b = omega arith

-- ---- parts

-- what a framework in form is made of
pub record ArePartsOf (f : Aba) (atoms : ℕ) (assumptions : List ℕ) (contraries : List (ℕ × ℕ)) (lists : RuleLists)
    (next : ℕ) : Type 0 where
  pub atoms_are : atoms ≡ f.atoms
  pub assumptions_are : assumptions ≡ f.assumptions
  pub contraries_are : (p : ℕ × ℕ) → Contains contraries p ↔ Contains f.contraries p
  pub rules_are : AreListsOf f.rules lists
  pub next_is : next ≡ f.next

-- pairs with the members of a framework's are pairs of an assumption and an atom
pub contraries_fit : (f : Aba) (contraries : List (ℕ × ℕ)) → IsNumberedAba f
    → ((p : ℕ × ℕ) → Contains contraries p ↔ Contains f.contraries p) → AreContraries f.atoms f.assumptions contraries
contraries_fit f contraries ok same a c there = ok.form.contraries_are a c ((same (a, c)).0 there)

rule_lists_of : (f : Aba) (lists : RuleLists) → IsNumberedAba f → AreListsOf f.rules lists
    → AreRuleLists f.atoms lists.numbers.items lists.heads.items lists.bodies.items
rule_lists_of f lists ok h = record {
  long = ap length h.numbers_are ∙ length-map f.rules (λ (r : Rule). r.number)
      ∙ sym (length-map f.rules (λ (r : Rule). r.head)) ∙ sym (ap length h.heads_are);
  heads_are = λ x c.
      let from = image_from (λ (r : Rule). r.head) f.rules x (subst (λ xs. Contains xs x) h.heads_are c) in
      subst (IsAtom f.atoms) from.2 (ok.form.rules_are from.0 from.1).head;
  bodies_are = λ k y c.
      let is = (h.bodies_are k y).0 c in
      let long : length lists.heads.items ≡ length f.rules = ap length h.heads_are
      ∙ length-map f.rules (λ (r : Rule). r.head) in (
        omega (arith, is.0, long),
        (ok.form.rules_are (rule_at f.rules k) (Contains-get_or f.rules k no_rule is.0)).body y is.1,
      );
}

parts_themselves : (f : Aba) (contraries : List (ℕ × ℕ)) (lists : RuleLists) → IsNumberedAba f
    → AreContraries f.atoms f.assumptions contraries → AreListsOf f.rules lists
    → AreParts f.atoms f.assumptions contraries lists f.next
parts_themselves f contraries lists ok are h = record {
  atoms_small = ok.atoms;
  next_low = ok.form.next_is;
  next_small = ok.rules;
  assumptions_are = ok.form.assumptions_are;
  contraries_are = are;
  rules_are = rule_lists_of f lists ok h;
  numbers_rise = subst IsStrictlyIncreasing (sym h.numbers_are) ok.form.numbers_rise;
  numbers_are = λ n c. let from = image_from (λ (r : Rule). r.number) f.rules n
      (subst (λ xs. Contains xs n) h.numbers_are c) in
      let is = ok.form.rules_are from.0 from.1 in
      (subst (λ m. 1 ≤ m) from.2 is.low, subst (λ m. m < f.next) from.2 is.given);
  flat = λ x c d. let from = image_from (λ (r : Rule). r.head) f.rules x (subst (λ xs. Contains xs x) h.heads_are c) in
      (ok.form.rules_are from.0 from.1).flat (subst (Contains f.assumptions) (sym from.2) d);
}

pub parts_with : (f : Aba) (atoms : ℕ) (assumptions : List ℕ) (contraries : List (ℕ × ℕ)) (lists : RuleLists) (next : ℕ)
    → IsNumberedAba f → atoms ≡ f.atoms → assumptions ≡ f.assumptions
    → AreContraries f.atoms f.assumptions contraries → AreListsOf f.rules lists → next ≡ f.next
    → AreParts atoms assumptions contraries lists next
parts_with f atoms assumptions contraries lists next ok same_atoms same_assumptions are h same_next =
    subst (λ n. AreParts n assumptions contraries lists next) (sym same_atoms)
    (subst (λ xs. AreParts f.atoms xs contraries lists next) (sym same_assumptions)
    (subst (λ n. AreParts f.atoms f.assumptions contraries lists n) (sym same_next)
    (parts_themselves f contraries lists ok are h)))

pub parts : (f : Aba) (atoms : ℕ) (assumptions : List ℕ) (contraries : List (ℕ × ℕ)) (lists : RuleLists) (next : ℕ)
    → IsNumberedAba f → ArePartsOf f atoms assumptions contraries lists next
    → AreParts atoms assumptions contraries lists next
parts f atoms assumptions contraries lists next ok h =
    parts_with f atoms assumptions contraries lists next ok h.atoms_are h.assumptions_are
    (contraries_fit f contraries ok h.contraries_are) h.rules_are h.next_is

-- ---- the framework that is made

pub same_contraries : (f g : Aba) → IsNumberedAba f → IsNumberedAba g
    → ((p : ℕ × ℕ) → Contains f.contraries p ↔ Contains g.contraries p) → f.contraries ≡ g.contraries
same_contraries f g ok ko same = same_lists IsPairBefore pairs_asymmetric f.contraries g.contraries
    ok.form.contraries_rise ko.form.contraries_rise same

pub same_rule : (r s : Rule) → r.number ≡ s.number → r.head ≡ s.head → r.body ≡ s.body → r ≡ s
same_rule r s n h b = λ i. record { number = n i; head = h i; body = b i }

-- rules with the same numbers, heads and body atoms at each index are the same
same_rules : (f g : Aba) (lists : RuleLists) → IsNumberedAba f → IsNumberedAba g
    → AreRulesOf lists.numbers.items lists.heads.items lists.bodies.items f.rules → AreListsOf g.rules lists
    → f.rules ≡ g.rules
same_rules f g lists ok ko are h = ext_get_or no_rule f.rules g.rules long each
  where
    numbers : numbers_of f.rules ≡ numbers_of g.rules
    numbers = are.numbers_are ∙ h.numbers_are

    heads : heads_of f.rules ≡ heads_of g.rules
    heads = are.heads_are ∙ h.heads_are

    long : length f.rules ≡ length g.rules
    long = sym (length-map f.rules (λ (r : Rule). r.number)) ∙ ap length numbers
        ∙ length-map g.rules (λ (r : Rule). r.number)

    each : (k : ℕ) → k < length f.rules → rule_at f.rules k ≡ rule_at g.rules k
    each k lt =
        let lt' : k < length g.rules = omega (arith, long) in
        same_rule (rule_at f.rules k) (rule_at g.rules k)
        (sym (get_or-map (λ (r : Rule). r.number) f.rules k no_rule 0 lt) ∙ ap (λ xs. get_or xs k 0) numbers
        ∙ get_or-map (λ (r : Rule). r.number) g.rules k no_rule 0 lt')
        (sym (get_or-map (λ (r : Rule). r.head) f.rules k no_rule 0 lt) ∙ ap (λ xs. get_or xs k 0) heads
        ∙ get_or-map (λ (r : Rule). r.head) g.rules k no_rule 0 lt')
        (same_rising (rule_at f.rules k).body (rule_at g.rules k).body
        (ok.form.rules_are (rule_at f.rules k) (Contains-get_or f.rules k no_rule lt)).body_rises
        (ko.form.rules_are (rule_at g.rules k) (Contains-get_or g.rules k no_rule lt')).body_rises
        (λ y. (
          λ c. ((h.bodies_are k y).0 ((are.bodies_are k y lt).0 c)).1,
          λ c. (are.bodies_are k y lt).1 ((h.bodies_are k y).1 (lt', c)),
        )))

pub same_aba : (f g : Aba) → f.atoms ≡ g.atoms → f.assumptions ≡ g.assumptions → f.contraries ≡ g.contraries
    → f.rules ≡ g.rules → f.next ≡ g.next → f ≡ g
same_aba f g a b c d e = λ i. record { atoms = a i; assumptions = b i; contraries = c i; rules = d i; next = e i }

pub made : {E : Type 0} (f : Aba) (atoms : ℕ) (assumptions : List ℕ) (contraries : List (ℕ × ℕ)) (lists : RuleLists)
    (next : ℕ) (result : Result Aba E) → IsNumberedAba f → ArePartsOf f atoms assumptions contraries lists next
    → IfOk result (λ g. g.atoms ≡ atoms) → IfOk result (λ g. g.assumptions ≡ assumptions)
    → IfOk result (λ g. (p : ℕ × ℕ) → Contains g.contraries p ↔ Contains contraries p)
    → IfOk result (λ g. AreRulesOf lists.numbers.items lists.heads.items lists.bodies.items g.rules)
    → IfOk result (λ g. g.next ≡ next) → IfOk result IsNumberedAba → IfOk result (λ g. g ≡ f)
made f atoms assumptions contraries lists next (Ok g) ok h a b c d e fine = same_aba g f (a ∙ h.atoms_are)
    (b ∙ h.assumptions_are)
    (same_contraries g f fine ok (λ p. (
      λ x. (h.contraries_are p).0 ((c p).0 x),
      λ x. (c p).1 ((h.contraries_are p).1 x),
    )))
    (same_rules g f lists fine ok d h.rules_are) (e ∙ h.next_is)
made f atoms assumptions contraries lists next (Err x) ok h a b c d e fine = a

-- a framework that differs from one in its contraries alone
pub has_contraries : {E : Type 0} (f : Aba) (atoms : ℕ) (assumptions : List ℕ) (contraries : List (ℕ × ℕ))
    (lists : RuleLists) (next : ℕ) (result : Result Aba E) → IsNumberedAba f → atoms ≡ f.atoms
    → assumptions ≡ f.assumptions → AreListsOf f.rules lists → next ≡ f.next → IfOk result (λ g. g.atoms ≡ atoms)
    → IfOk result (λ g. g.assumptions ≡ assumptions)
    → IfOk result (λ g. (p : ℕ × ℕ) → Contains g.contraries p ↔ Contains contraries p)
    → IfOk result (λ g. AreRulesOf lists.numbers.items lists.heads.items lists.bodies.items g.rules)
    → IfOk result (λ g. g.next ≡ next) → IfOk result IsNumberedAba → IfOk result (HasContraries f contraries)
has_contraries f atoms assumptions contraries lists next (Ok g) ok same_atoms same_assumptions h same_next a b c d e
    fine = record {
      atoms_are = a ∙ same_atoms;
      assumptions_are = b ∙ same_assumptions;
      contraries_are = c;
      rules_are = same_rules g f lists fine ok d h;
      next_is = e ∙ same_next;
      form = fine;
    }
has_contraries f atoms assumptions contraries lists next (Err x) ok same_atoms same_assumptions h same_next a b c d e
    fine = a

pub made_with : {E : Type 0} (f : Aba) (contraries pairs : List (ℕ × ℕ)) (result : Result Aba E)
    → IsNumberedAba (aba_of f.atoms f.assumptions pairs f.rules f.next)
    → ((p : ℕ × ℕ) → Contains contraries p ↔ Contains pairs p) → IfOk result (HasContraries f contraries)
    → IfOk result (λ g. g ≡ aba_of f.atoms f.assumptions pairs f.rules f.next)
made_with f contraries pairs (Ok g) ok same has =
    let h = aba_of f.atoms f.assumptions pairs f.rules f.next in
    same_aba g h has.atoms_are has.assumptions_are
    (same_contraries g h has.form ok (λ p. (
      λ c. (same p).0 ((has.contraries_are p).0 c),
      λ c. (has.contraries_are p).1 ((same p).1 c),
    )))
    has.rules_are has.next_is
made_with f contraries pairs (Err x) ok same has = has

-- ---- bounds

-- there are no more rules than numbers for them
pub few_rules : (f : Aba) → IsNumberedAba f → length f.rules ≤ MAX_RULE
few_rules f ok =
    let bounded : (n : ℕ) → Contains (numbers_of f.rules) n → (1 ≤ n) × (n < f.next) = λ n c.
    (let from = image_from (λ (r : Rule). r.number) f.rules n c in
    let is = ok.form.rules_are from.0 from.1 in
    (subst (λ m. 1 ≤ m) from.2 is.low, subst (λ m. m < f.next) from.2 is.given)) in
    let few = rising_few (numbers_of f.rules) f.next ok.form.numbers_rise bounded ok.form.next_is in
    omega (arith, few, length-map f.rules (λ (r : Rule). r.number), ok.rules)
