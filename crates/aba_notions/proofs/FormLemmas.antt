-- A framework that is made of parts in order is in its form.
use Rattle.std.proofs.Common.{◌≡◌, ℕ, ◌+◌, ◌<◌, ◌≤◌, List, length, get_or, map, arith, sym, subst, ◌∙◌, eqb, ⊎_elim}
use Rattle.std.specs.Prelude.{Contains, ◌↔◌, filter}
use Rattle.std.specs.List.Sorted.{IsStrictlyIncreasing}
use Rattle.std.proofs.lemmas.Bool.{eqb-true}
use Rattle.std.proofs.lemmas.List.{get_or_default, get_or-map, length-map}
use Rattle.std.proofs.lemmas.List.Elements.{Contains-get_or}
use Rattle.lists.proofs.Filters.{Contains-filter}
use Rattle.dung_notions.specs.attack_index.specs.PairOrder.{PairsRise}
use Rattle.dung_notions.specs.attack_index.proofs.OffsetLemmas.{PairsRise-filter}
use Rattle.semantics.specs.Rules.{Rule}
use Rattle.semantics.specs.AbaFrameworks.{IsRuleOf, IsNumberedAba}
use Rattle.aba_notions.specs.declared.rule_table.RuleLists.{RuleLists}
use Rattle.aba_notions.specs.Storage.{no_rule, rule_at, rule_of, rules_of, aba_of, AreParts, AreRulesOf}
use Rattle.aba_notions.proofs.TableLemmas.{rule_from, rising_few}
use Rattle.lists.proofs.Images.{image_there}

-- ---- bodies

-- the second numbers of rising pairs rise where all begin with one number
seconds_rise : (pairs : List (ℕ × ℕ)) (n : ℕ) → PairsRise pairs → ((p : ℕ × ℕ) → Contains pairs p → p.0 ≡ n)
    → IsStrictlyIncreasing (map (λ (p : ℕ × ℕ). p.1) pairs)
seconds_rise pairs n up all k lt =
    let size = length-map pairs (λ (p : ℕ × ℕ). p.1) in
    let p : ℕ × ℕ = get_or pairs k (0, 0) in
    let q : ℕ × ℕ = get_or pairs (k + 1) (0, 0) in
    let second : k + 1 < length pairs = omega (arith, lt, size) in
    let less : p.1 < q.1 = ⊎_elim
    (λ h. absurd (omega (
      arith,
      h,
      all p (Contains-get_or pairs k (0, 0) (omega arith)),
      all q (Contains-get_or pairs (k + 1) (0, 0) second),
    )))
    (λ tie. tie.1)
    (up.order k (k + 1) (0, 0) (omega arith) second) in
    omega (
      arith,
      less,
      get_or-map (λ (p : ℕ × ℕ). p.1) pairs k (0, 0) 0 (omega arith),
      get_or-map (λ (p : ℕ × ℕ). p.1) pairs (k + 1) (0, 0) 0 second,
    )

-- the body of a rule rises
body_rises : (numbers heads : List ℕ) (bodies : List (ℕ × ℕ)) (k : ℕ) → PairsRise bodies
    → IsStrictlyIncreasing (rule_of numbers heads bodies k).body
body_rises numbers heads bodies k up =
    seconds_rise (filter (λ p. eqb p.0 k) bodies) k (PairsRise-filter (λ p. eqb p.0 k) bodies up)
    (λ p c. eqb-true p.0 k ((Contains-filter (λ (q : ℕ × ℕ). eqb q.0 k) bodies p).0 c).1)

-- ---- a framework's form

-- a rule of a table that was made of lists
rule_is : (atoms : ℕ) (assumptions : List ℕ) (given contraries : List (ℕ × ℕ)) (lists : RuleLists) (next : ℕ)
    (numbers heads : List ℕ) (bodies : List (ℕ × ℕ)) → AreParts atoms assumptions given lists next → PairsRise bodies
    → AreRulesOf lists.numbers.items lists.heads.items lists.bodies.items (rules_of numbers heads bodies)
    → (r : Rule) → Contains (rules_of numbers heads bodies) r
    → IsRuleOf (aba_of atoms assumptions contraries (rules_of numbers heads bodies) next) r
rule_is atoms assumptions given contraries lists next numbers heads bodies parts rise are r c =
    let rules = rules_of numbers heads bodies in
    let number : Contains lists.numbers.items r.number =
    subst (λ ns. Contains ns r.number) are.numbers_are (image_there (λ (q : Rule). q.number) rules r c) in
    let head : Contains lists.heads.items r.head =
    subst (λ hs. Contains hs r.head) are.heads_are (image_there (λ (q : Rule). q.head) rules r c) in
    let from = rule_from numbers heads bodies r c in
    let at : rule_at rules c.0 ≡ r = get_or_default rules c.0 no_rule r c.1 ∙ c.2 in
    record {
      low = (parts.numbers_are r.number number).0;
      given = (parts.numbers_are r.number number).1;
      head = parts.rules_are.heads_are r.head head;
      flat = parts.flat r.head head;
      body_rises = subst (λ (q : Rule). IsStrictlyIncreasing q.body) from.2
          (body_rises numbers heads bodies from.0 rise);
      body = λ y in_body. (parts.rules_are.bodies_are c.0 y
          ((are.bodies_are c.0 y c.1).0 (subst (λ (q : Rule). Contains q.body y) (sym at) in_body))).1;
    }

pub formed : (atoms : ℕ) (assumptions : List ℕ) (given contraries : List (ℕ × ℕ)) (lists : RuleLists) (next : ℕ)
    (numbers heads : List ℕ) (bodies : List (ℕ × ℕ)) → IsStrictlyIncreasing assumptions
    → AreParts atoms assumptions given lists next → PairsRise contraries
    → ((p : ℕ × ℕ) → Contains contraries p ↔ Contains given p) → PairsRise bodies
    → AreRulesOf lists.numbers.items lists.heads.items lists.bodies.items (rules_of numbers heads bodies)
    → IsNumberedAba (aba_of atoms assumptions contraries (rules_of numbers heads bodies) next)
formed atoms assumptions given contraries lists next numbers heads bodies up parts rise same bodies_rise are = record {
  form = record {
    assumptions_rise = up;
    assumptions_are = parts.assumptions_are;
    contraries_rise = rise.order;
    contraries_are = λ a c in'. parts.contraries_are a c ((same (a, c)).0 in');
    numbers_rise = subst IsStrictlyIncreasing (sym are.numbers_are) parts.numbers_rise;
    rules_are = rule_is atoms assumptions given contraries lists next numbers heads bodies parts bodies_rise are;
    next_is = parts.next_low;
  };
  atoms = parts.atoms_small;
  rules = parts.next_small;
}

-- there are no more rules than there are numbers for them
pub few_rules : (atoms last : ℕ) (assumptions : List ℕ) (given : List (ℕ × ℕ)) (lists : RuleLists) (next : ℕ)
    → AreParts atoms assumptions given lists next → next ≤ last + 1 → length lists.heads.items ≤ last
few_rules atoms last assumptions given lists next parts small =
    omega (
      arith,
      parts.rules_are.long,
      rising_few lists.numbers.items next parts.numbers_rise parts.numbers_are parts.next_low,
    )
