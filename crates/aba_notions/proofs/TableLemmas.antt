-- Rules in flat lists, and the pairs by which they are found.
use Rattle.std.proofs.Common.{◌≡◌, ℕ, zero, suc, ◌+◌, ◌-◌, ◌<◌, ◌≤◌, List, [], ◌∷◌, ◌++◌, length, get_or, map, arith, ap, sym, subst, ◌∙◌, refl, eqb, ⊎_elim}
use Rattle.std.specs.Prelude.{Contains, ◌↔◌, filter}
use Rattle.std.specs.List.Sorted.{IsStrictlyIncreasing}
use Rattle.std.proofs.lemmas.Bool.{cases_eq, eq-eqb, eqb-true}
use Rattle.std.proofs.lemmas.List.{ext_get_or, get_or_default, get_or-map, length-map}
use Rattle.std.proofs.lemmas.List.FromFn.{length-map-range_with_len, get_or-map-range_with_len}
use Rattle.std.proofs.lemmas.List.Elements.{Contains-get_or, Contains-push_cases, Contains-append_left}
use Rattle.std.proofs.lemmas.List.Kept.{AllPairs-from_increasing}
use Rattle.lists.proofs.Filters.{Contains-filter}
use Rattle.lists.proofs.Membership.{Contains-pushed}
use Rattle.dung_notions.specs.attack_index.specs.PairOrder.{PairsRise, reversed}
use Rattle.dung_notions.specs.attack_index.specs.Offsets.{AreBelow, IndexedPairs}
use Rattle.dung_notions.specs.attack_index.proofs.PairOrderLemmas.{pair_same}
use Rattle.semantics.specs.Rules.{Rule}
use Rattle.aba_notions.specs.Storage.{no_rule, rule_at, rule_of, rules_of, AreTabled, IsTable, AreRuleLists, AreRulesOf}
use Rattle.lists.proofs.Images.{image_there, image_from}

-- the body of the rule at an index
pub in_body : (numbers heads : List ℕ) (bodies : List (ℕ × ℕ)) (k y : ℕ)
    → Contains (rule_of numbers heads bodies k).body y ↔ Contains bodies (k, y)
in_body numbers heads bodies k y =
    let kept = λ (p : ℕ × ℕ). Contains-filter (λ (q : ℕ × ℕ). eqb q.0 k) bodies p in (
      λ c.
          let from = image_from (λ (p : ℕ × ℕ). p.1) (filter (λ p. eqb p.0 k) bodies) y c in
          let w = (kept from.0).0 from.1 in
          subst (λ p. Contains bodies p) (pair_same from.0 (k, y) (eqb-true from.0.0 k w.1) from.2) w.0,
      λ c. image_there (λ (p : ℕ × ℕ). p.1) (filter (λ p. eqb p.0 k) bodies) (k, y)
          ((kept (k, y)).1 (c, eq-eqb k k refl)),
    )

pub length_rules : (numbers heads : List ℕ) (bodies : List (ℕ × ℕ)) → length (rules_of numbers heads bodies)
    ≡ length heads
unfolding rules_of
length_rules numbers heads bodies = length-map-range_with_len (rule_of numbers heads bodies) 0 (length heads)

pub rule_there : (numbers heads : List ℕ) (bodies : List (ℕ × ℕ)) (k : ℕ) → k < length heads
    → rule_at (rules_of numbers heads bodies) k ≡ rule_of numbers heads bodies k
unfolding rules_of
rule_there numbers heads bodies k lt =
    get_or-map-range_with_len (rule_of numbers heads bodies) 0 (length heads) k k no_rule lt (omega arith)

pub rule_from : (numbers heads : List ℕ) (bodies : List (ℕ × ℕ)) (r : Rule)
    → Contains (rules_of numbers heads bodies) r
    → (k : ℕ) × (k < length heads) × (rule_of numbers heads bodies k ≡ r)
rule_from numbers heads bodies r c =
    let lt : c.0 < length heads = omega (arith, c.1, length_rules numbers heads bodies) in (
      c.0,
      lt,
      sym (rule_there numbers heads bodies c.0 lt)
          ∙ get_or_default (rules_of numbers heads bodies) c.0 no_rule r c.1 ∙ c.2,
    )

-- the numbers of the rules, and their heads
pub numbers_of : (numbers heads : List ℕ) (bodies : List (ℕ × ℕ)) → length numbers ≡ length heads
    → map (λ (r : Rule). r.number) (rules_of numbers heads bodies) ≡ numbers
numbers_of numbers heads bodies long =
    let rules = rules_of numbers heads bodies in
    let size : length (map (λ (r : Rule). r.number) rules) ≡ length numbers =
    length-map rules (λ r. r.number) ∙ length_rules numbers heads bodies ∙ sym long in
    ext_get_or 0 (map (λ (r : Rule). r.number) rules) numbers size
    (λ i lt. let within : i < length heads = omega (arith, lt, size, long) in
    get_or-map (λ (r : Rule). r.number) rules i no_rule 0 (omega (arith, within, length_rules numbers heads bodies))
    ∙ ap (λ (r : Rule). r.number) (rule_there numbers heads bodies i within))

pub heads_of : (numbers heads : List ℕ) (bodies : List (ℕ × ℕ))
    → map (λ (r : Rule). r.head) (rules_of numbers heads bodies) ≡ heads
heads_of numbers heads bodies =
    let rules = rules_of numbers heads bodies in
    let size : length (map (λ (r : Rule). r.head) rules) ≡ length heads =
    length-map rules (λ r. r.head) ∙ length_rules numbers heads bodies in
    ext_get_or 0 (map (λ (r : Rule). r.head) rules) heads size
    (λ i lt. let within : i < length heads = omega (arith, lt, size) in
    get_or-map (λ (r : Rule). r.head) rules i no_rule 0 (omega (arith, within, length_rules numbers heads bodies))
    ∙ ap (λ (r : Rule). r.head) (rule_there numbers heads bodies i within))

-- the rules of lists whose bodies were put in order
pub made_rules : (numbers heads : List ℕ) (given bodies : List (ℕ × ℕ)) → length numbers ≡ length heads
    → ((p : ℕ × ℕ) → Contains bodies p ↔ Contains given p)
    → AreRulesOf numbers heads given (rules_of numbers heads bodies)
made_rules numbers heads given bodies long same = record {
  numbers_are = numbers_of numbers heads bodies long;
  heads_are = heads_of numbers heads bodies;
  bodies_are = λ k y lt.
      let within : k < length heads = omega (arith, lt, length_rules numbers heads bodies) in
      let there = in_body numbers heads bodies k y in
      rw (rule_there numbers heads bodies k within) (
        λ c. (same (k, y)).0 (there.0 c),
        λ c. there.1 ((same (k, y)).1 c),
      );
}

-- a table of rules from lists and the pairs that were made of them
tabled : (atoms : ℕ) (numbers heads : List ℕ) (given : List (ℕ × ℕ)) (bodies uses : IndexedPairs)
    → AreRuleLists atoms numbers heads given
    → ((p : ℕ × ℕ) → Contains bodies.pairs p ↔ Contains given p)
    → ((p : ℕ × ℕ) → Contains uses.pairs (reversed p) ↔ Contains bodies.pairs p)
    → AreTabled (rules_of numbers heads bodies.pairs) heads uses.pairs
tabled atoms numbers heads given bodies uses lists same turn = record {
  long = length_rules numbers heads bodies.pairs;
  heads_are = λ k lt. ap (λ (r : Rule). r.head) (rule_there numbers heads bodies.pairs k lt);
  bodies_are = λ k y lt.
      let there = in_body numbers heads bodies.pairs k y in
      rw (rule_there numbers heads bodies.pairs k lt) (
        λ c. (turn (k, y)).1 (there.0 c),
        λ c. there.1 ((turn (k, y)).0 c),
      );
  within = λ y k c. (lists.bodies_are k y ((same (k, y)).0 ((turn (k, y)).0 c))).0;
}

pub stores_table : (atoms bound : ℕ) (numbers heads : List ℕ) (given pairs : List (ℕ × ℕ))
    (bodies uses headed : IndexedPairs)
    → AreRuleLists atoms numbers heads given
    → ((p : ℕ × ℕ) → Contains bodies.pairs p ↔ Contains given p) → PairsRise bodies.pairs
    → ((p : ℕ × ℕ) → Contains uses.pairs (reversed p) ↔ Contains bodies.pairs p) → PairsRise uses.pairs
    → bodies.bound ≡ bound → length heads ≤ bound
    → ((h k : ℕ) → Contains pairs (h, k) ↔ ((k < length heads) × (get_or heads k 0 ≡ h)))
    → ((p : ℕ × ℕ) → Contains headed.pairs p ↔ Contains pairs p)
    → IsTable atoms numbers heads bodies uses headed
stores_table atoms bound numbers heads given pairs bodies uses headed lists same rise turn back is reach heads_are
    headed_same = record {
      numbers_long = lists.long;
      tabled = tabled atoms numbers heads given bodies uses lists same turn;
      heads_within = λ k lt. (lists.heads_are _ (Contains-get_or heads k 0 lt)).high;
      uses_within = λ y k c. (lists.bodies_are k y ((same (k, y)).0 ((turn (k, y)).0 c))).1.high;
      reach = rw is reach;
      bodies_rise = rise;
      uses_rise = back;
      uses_are = turn;
      headed_are = λ h k. (
        λ c. (heads_are h k).0 ((headed_same (h, k)).0 c),
        λ w. (headed_same (h, k)).1 ((heads_are h k).1 w),
      );
    }

-- rising numbers from 1 up are larger than their indices
pub above_index : (xs : List ℕ) → IsStrictlyIncreasing xs → ((n : ℕ) → Contains xs n → 1 ≤ n) → (i : ℕ)
    → i < length xs → i < get_or xs i 0
above_index xs up low zero lt = low _ (Contains-get_or xs 0 0 lt)
above_index xs up low (suc i) lt =
    let before : i < get_or xs i 0 = above_index xs up low i (omega arith) in
    omega (arith, AllPairs-from_increasing xs up i (suc i) 0 (omega arith) lt)

-- rising numbers from 1 to below a bound are fewer than it
pub rising_few : (xs : List ℕ) (next : ℕ) → IsStrictlyIncreasing xs → ((n : ℕ) → Contains xs n → (1 ≤ n) × (n < next))
    → 1 ≤ next → length xs < next
rising_few xs next up are low =
    ⊎_elim (λ (none : length xs ≡ 0). omega (arith, none))
    (λ some.
    let last : ℕ = length xs - 1 in
    let lt : last < length xs = omega (arith, some) in
    omega (
      arith,
      above_index xs up (λ n c. (are n c).0) last lt,
      (are _ (Contains-get_or xs last 0 lt)).1,
    ))
    (cases_eq (length xs) 0)

-- the heads before an index, each with its own index
pub record ArePairsOfHeads (heads : List ℕ) (n : ℕ) (pairs : List (ℕ × ℕ)) : Type 0 where
  pub are : (h k : ℕ) → Contains pairs (h, k) ↔ ((k < n) × (get_or heads k 0 ≡ h))

pub pairs_none : (heads : List ℕ) (pairs : List (ℕ × ℕ)) → pairs ≡ [] → ArePairsOfHeads heads 0 pairs
pairs_none heads pairs e = record {
  are = λ h k. (λ c. absurd (let w = rw e at c in omega (arith, w.1)), λ w. absurd (omega (arith, w.0)));
}

pub pairs_more : (heads : List ℕ) (n head index : ℕ) (old new : List (ℕ × ℕ)) → ArePairsOfHeads heads n old
    → get_or heads n 0 ≡ head → index ≡ n → new ≡ old ++ (head, index) ∷ [] → ArePairsOfHeads heads (n + 1) new
pairs_more heads n head index old new h is at made = record {
  are = λ x k. rw made (
    λ c. ⊎_elim (λ before. let w = (h.are x k).0 before in (omega (arith, w.0), w.1))
        (λ e. let first : head ≡ x = ap (λ (p : ℕ × ℕ). p.0) e in
        let second : index ≡ k = ap (λ (p : ℕ × ℕ). p.1) e in
        (omega (arith, second, at), rw (sym second ∙ at) (is ∙ first)))
        (Contains-push_cases old (head, index) (x, k) c),
    λ w. ⊎_elim (λ (e : k ≡ n). Contains-pushed old (head, index) (x, k)
        (pair_same (head, index) (x, k) (sym is ∙ rw e at w.1) (at ∙ sym e)))
        (λ ne. Contains-append_left old ((head, index) ∷ []) (x, k) ((h.are x k).1 (omega (arith, w.0, ne), w.1)))
        (cases_eq k n),
  );
}

-- what is cut out of the bodies by the index of a rule is its body
pub body_cut : (numbers heads : List ℕ) (bodies pairs : List (ℕ × ℕ)) (k : ℕ)
    → k < length (rules_of numbers heads bodies) → pairs ≡ filter (λ p. eqb p.0 k) bodies
    → map (λ (p : ℕ × ℕ). p.1) pairs ≡ (rule_at (rules_of numbers heads bodies) k).body
body_cut numbers heads bodies pairs k lt is =
    ap (λ ps. map (λ (p : ℕ × ℕ). p.1) ps) is
    ∙ ap (λ (r : Rule). r.body)
    (sym (rule_there numbers heads bodies k (omega (arith, lt, length_rules numbers heads bodies))))

pub cut_index : (bodies pairs : List (ℕ × ℕ)) (k : ℕ) → pairs ≡ filter (λ p. eqb p.0 k) bodies → (p : ℕ × ℕ)
    → Contains pairs p → p.0 ≡ k
cut_index bodies pairs k is p c =
    let kept : Contains (filter (λ p. eqb p.0 k) bodies) p = subst (λ ps. Contains ps p) is c in
    eqb-true p.0 k ((Contains-filter (λ (q : ℕ × ℕ). eqb q.0 k) bodies p).0 kept).1

-- what is cut out of the pairs of heads by an atom are the rules that it heads
pub headed_cut : (atoms : ℕ) (numbers heads : List ℕ) (bodies uses headed : IndexedPairs) (pairs : List (ℕ × ℕ))
    (atom : ℕ) → IsTable atoms numbers heads bodies uses headed → pairs ≡ filter (λ p. eqb p.0 atom) headed.pairs
    → (h k : ℕ) → Contains pairs (h, k) ↔ ((h ≡ atom) × (k < length (rules_of numbers heads bodies.pairs))
    × ((rule_at (rules_of numbers heads bodies.pairs) k).head ≡ atom))
headed_cut atoms numbers heads bodies uses headed pairs atom t is h k =
    let kept = Contains-filter (λ (q : ℕ × ℕ). eqb q.0 atom) headed.pairs (h, k) in
    rw is (
      λ c.
          let w = kept.0 c in
          let there = (t.headed_are h k).0 w.0 in
          let same : h ≡ atom = eqb-true h atom w.1 in (
            same,
            omega (arith, there.0, t.tabled.long),
            t.tabled.heads_are k there.0 ∙ there.1 ∙ same,
          ),
      λ w.
          let lt : k < length heads = omega (arith, w.1, t.tabled.long) in
          kept.1 (
            (t.headed_are h k).1 (lt, sym (t.tabled.heads_are k lt) ∙ w.2 ∙ sym w.0),
            eq-eqb h atom w.0,
          ),
    )

-- all heads with their indices
pub pairs_all : (heads : List ℕ) (n : ℕ) (pairs : List (ℕ × ℕ)) → length heads ≤ n → n ≤ length heads
    → ArePairsOfHeads heads n pairs
    → (h k : ℕ) → Contains pairs (h, k) ↔ ((k < length heads) × (get_or heads k 0 ≡ h))
pairs_all heads n pairs past few p h k = (
  λ c. let w = (p.are h k).0 c in (omega (arith, w.0, few), w.1),
  λ w. (p.are h k).1 (omega (arith, w.0, past), w.1),
)

-- the pairs of heads, and those of bodies, lie below a bound above all atoms and indices
pub heads_below : (atoms bound : ℕ) (numbers heads : List ℕ) (given pairs : List (ℕ × ℕ))
    → AreRuleLists atoms numbers heads given → length heads ≤ bound → atoms < bound
    → ((h k : ℕ) → Contains pairs (h, k) ↔ ((k < length heads) × (get_or heads k 0 ≡ h)))
    → AreBelow bound pairs
heads_below atoms bound numbers heads given pairs lists long high are p c =
    let w = (are p.0 p.1).0 c in (
      omega (arith, w.1, high, (lists.heads_are _ (Contains-get_or heads p.1 0 w.0)).high),
      omega (arith, w.0, long),
    )

pub bodies_below : (atoms bound : ℕ) (numbers heads : List ℕ) (given : List (ℕ × ℕ))
    → AreRuleLists atoms numbers heads given → length heads ≤ bound → atoms < bound → AreBelow bound given
bodies_below atoms bound numbers heads given lists long high p c =
    let w = lists.bodies_are p.0 p.1 c in (omega (arith, w.0, long), omega (arith, w.1.high, high))
