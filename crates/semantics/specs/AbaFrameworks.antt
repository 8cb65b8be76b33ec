-- Flat assumption-based frameworks, and the attacks between sets of assumptions.
--
-- Source: A. Bondarenko, P. M. Dung, R. A. Kowalski, F. Toni, "An abstract, argumentation-theoretic approach to default
-- reasoning", Artificial Intelligence 93 (1997).
use Rattle.std.specs.Prelude.{ℕ, ◌+◌, ◌≤◌, ◌<◌, List, Contains, length, map, slice_index_or}
use Rattle.std.specs.List.Sorted.{IsStrictlyIncreasing}
use Rattle.semantics.specs.declared.numbers.TheConstants.{MAX_ATOM, MAX_RULE}
use Rattle.semantics.specs.Collectives.{Collective}
use Rattle.semantics.specs.Framework.{IsPairBefore}
use Rattle.semantics.specs.Rules.{Rule, Derives}

-- an assumption-based framework (Bondarenko et al. 1997, definition 2.1)
pub record Aba : Type 0 where
  -- the atoms are the numbers from 1 to this one
  pub atoms : ℕ
  pub assumptions : List ℕ
  -- the pair (a, c) reads "c is a contrary of a"; an assumption may have none or several
  pub contraries : List (ℕ × ℕ)
  pub rules : List Rule
  -- the number that the next rule gets
  pub next : ℕ

-- the set derives x: x lies in its theory
abbrev pub IsInTheory : Aba → List ℕ → ℕ → Type 0
IsInTheory f s x = Derives f.rules (Contains s) x

-- the set derives a contrary of a (Bondarenko et al. 1997, definition 3.1)
pub record AttacksAssumption (f : Aba) (s : List ℕ) (a : ℕ) : Type 0 where
  pub contrary : ℕ
  pub is : Contains f.contraries (a, contrary)
  pub derived : IsInTheory f s contrary

-- the framework's assumptions, and which sets of them attack which
abbrev pub collective_of : Aba → Collective
collective_of f = record { live = f.assumptions; attacks = AttacksAssumption f }

-- x is one of so many atoms
pub record IsAtom (atoms x : ℕ) : Type 0 where
  pub low : 1 ≤ x
  pub high : x ≤ atoms

-- the form of a rule: a number that was given, atoms, of which those of the body rise, and no assumption as head
pub record IsRuleOf (f : Aba) (r : Rule) : Type 0 where
  pub low : 1 ≤ r.number
  pub given : r.number < f.next
  pub head : IsAtom f.atoms r.head
  pub flat : Contains f.assumptions r.head → ⊥
  pub body_rises : IsStrictlyIncreasing r.body
  pub body : (y : ℕ) → Contains r.body y → IsAtom f.atoms y

-- the form of a flat framework's lists: assumptions and the numbers of rules rise, and the pairs of an assumption and an
-- atom that is a contrary of it, by assumption and then by contrary
pub record IsAba (f : Aba) : Type 0 where
  pub assumptions_rise : IsStrictlyIncreasing f.assumptions
  pub assumptions_are : (a : ℕ) → Contains f.assumptions a → IsAtom f.atoms a
  pub contraries_rise : (i j : ℕ) (d : ℕ × ℕ) → i < j → j < length f.contraries
      → IsPairBefore (slice_index_or f.contraries i d) (slice_index_or f.contraries j d)
  pub contraries_are : (a c : ℕ) → Contains f.contraries (a, c) → Contains f.assumptions a × IsAtom f.atoms c
  pub numbers_rise : IsStrictlyIncreasing (map (λ r. r.number) f.rules)
  pub rules_are : (r : Rule) → Contains f.rules r → IsRuleOf f r
  pub next_is : 1 ≤ f.next

-- a flat framework in its form, whose atoms and rules have numbers from 1 to the last ones
pub record IsNumberedAba (f : Aba) : Type 0 where
  pub form : IsAba f
  pub atoms : f.atoms ≤ MAX_ATOM
  pub rules : f.next ≤ MAX_RULE + 1
