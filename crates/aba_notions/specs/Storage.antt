-- A framework's rules in flat lists, and the pairs by which they are found.
use Rattle.std.specs.Prelude.{◌≡◌, ◌↔◌, ℕ, ◌+◌, ◌<◌, ◌≤◌, ◌==◌, List, [], Contains, filter, length, map}
use Rattle.std.specs.Prelude.{slice_index, slice_index_or}
use Rattle.std.specs.List.{range_with_len}
use Rattle.std.specs.List.Sorted.{IsStrictlyIncreasing}
use Rattle.semantics.specs.declared.numbers.TheConstants.{MAX_ATOM, MAX_RULE}
use Rattle.semantics.specs.Rules.{Rule}
use Rattle.semantics.specs.AbaFrameworks.{Aba, IsAtom, IsNumberedAba}
use Rattle.dung_notions.specs.attack_index.specs.PairOrder.{PairsRise, reversed}
use Rattle.dung_notions.specs.attack_index.specs.Offsets.{IndexedPairs}
use Rattle.aba_notions.specs.declared.rule_table.RuleLists.{RuleLists}
use Rattle.aba_notions.specs.declared.rule_table.RuleTable.{RuleTable}

-- what stands past the end of a list of rules
abbrev pub no_rule : Rule
no_rule = record { number = 0; head = 0; body = [] }

-- the rule at an index
abbrev pub rule_at : List Rule → ℕ → Rule
rule_at rules k = slice_index_or rules k no_rule

-- a rule by its index: its number and its head stand there, and its body are the atoms that are paired with it
abbrev pub rule_of : List ℕ → List ℕ → List (ℕ × ℕ) → ℕ → Rule
rule_of numbers heads bodies k = record {
  number = slice_index numbers k;
  head = slice_index heads k;
  body = map (λ p. p.1) (filter (λ p. p.0 == k) bodies);
}

-- the rules of flat lists
unfoldable pub rules_of : List ℕ → List ℕ → List (ℕ × ℕ) → List Rule
rules_of numbers heads bodies = map (rule_of numbers heads bodies) (range_with_len 0 (length heads))

-- the rules of a table
abbrev pub rules_in : RuleTable → List Rule
rules_in t = rules_of t.numbers.items t.heads.items t.bodies.pairs

-- the framework of an atom count, assumptions, their contraries, rules, and the number of the next rule
abbrev pub aba_of : ℕ → List ℕ → List (ℕ × ℕ) → List Rule → ℕ → Aba
aba_of atoms assumptions contraries rules next = record {
  atoms = atoms;
  assumptions = assumptions;
  contraries = contraries;
  rules = rules;
  next = next;
}

-- rules with the heads in a list, and their bodies as pairs of an atom and the index of a rule that uses it
pub record AreTabled (rules : List Rule) (heads : List ℕ) (uses : List (ℕ × ℕ)) : Type 0 where
  pub long : length rules ≡ length heads
  pub heads_are : (k : ℕ) → k < length heads → (rule_at rules k).head ≡ slice_index heads k
  pub bodies_are : (k y : ℕ) → k < length heads → Contains (rule_at rules k).body y ↔ Contains uses (y, k)
  pub within : (y k : ℕ) → Contains uses (y, k) → k < length heads

-- flat lists of rules over so many atoms, with their indices: bodies by rule, uses by atom, and rules by head
pub record IsTable (atoms : ℕ) (numbers heads : List ℕ) (bodies uses headed : IndexedPairs) : Type 0 where
  pub numbers_long : length numbers ≡ length heads
  pub tabled : AreTabled (rules_of numbers heads bodies.pairs) heads uses.pairs
  pub heads_within : (k : ℕ) → k < length heads → slice_index heads k ≤ atoms
  pub uses_within : (y k : ℕ) → Contains uses.pairs (y, k) → y ≤ atoms
  pub reach : length heads ≤ bodies.bound
  pub bodies_rise : PairsRise bodies.pairs
  pub uses_rise : PairsRise uses.pairs
  pub uses_are : (p : ℕ × ℕ) → Contains uses.pairs (reversed p) ↔ Contains bodies.pairs p
  pub headed_are : (h k : ℕ) → Contains headed.pairs (h, k) ↔ ((k < length heads) × (slice_index heads k ≡ h))

-- such lists in a table
abbrev pub IsTableOf : ℕ → RuleTable → Type 0
IsTableOf atoms t = IsTable atoms t.numbers.items t.heads.items t.bodies t.uses t.headed

-- a framework in its form, and its rules in such a table
pub record IsStored (f : Aba) (numbers heads : List ℕ) (bodies uses headed : IndexedPairs) : Type 0 where
  pub form : IsNumberedAba f
  pub table : IsTable f.atoms numbers heads bodies uses headed

-- pairs (a, c) of an assumption and an atom
abbrev pub AreContraries : ℕ → List ℕ → List (ℕ × ℕ) → Type 0
AreContraries atoms assumptions contraries = (a c : ℕ) → Contains contraries (a, c) → Contains assumptions a × IsAtom atoms c

-- lists of rules over so many atoms: a number and a head for each index, and body atoms under indices
pub record AreRuleLists (atoms : ℕ) (numbers heads : List ℕ) (bodies : List (ℕ × ℕ)) : Type 0 where
  pub long : length numbers ≡ length heads
  pub heads_are : (h : ℕ) → Contains heads h → IsAtom atoms h
  pub bodies_are : (k y : ℕ) → Contains bodies (k, y) → (k < length heads) × IsAtom atoms y

-- the parts of a flat framework within the bounds of its numbers: numbers of rules rise and lie below the next one, and
-- no assumption heads a rule
pub record AreParts (atoms : ℕ) (assumptions : List ℕ) (contraries : List (ℕ × ℕ)) (rules : RuleLists) (next : ℕ)
    : Type 0 where
  pub atoms_small : atoms ≤ MAX_ATOM
  pub next_low : 1 ≤ next
  pub next_small : next ≤ MAX_RULE + 1
  pub assumptions_are : (a : ℕ) → Contains assumptions a → IsAtom atoms a
  pub contraries_are : AreContraries atoms assumptions contraries
  pub rules_are : AreRuleLists atoms rules.numbers.items rules.heads.items rules.bodies.items
  pub numbers_rise : IsStrictlyIncreasing rules.numbers.items
  pub numbers_are : (n : ℕ) → Contains rules.numbers.items n → (1 ≤ n) × (n < next)
  pub flat : (h : ℕ) → Contains rules.heads.items h → Contains assumptions h → ⊥

-- rules with these numbers and heads, in this order, and exactly the body atoms that are paired with their indices
pub record AreRulesOf (numbers heads : List ℕ) (bodies : List (ℕ × ℕ)) (rules : List Rule) : Type 0 where
  pub numbers_are : map (λ r. r.number) rules ≡ numbers
  pub heads_are : map (λ r. r.head) rules ≡ heads
  pub bodies_are : (k y : ℕ) → k < length rules → Contains (rule_at rules k).body y ↔ Contains bodies (k, y)
