-- What the atoms of assumption-based frameworks say.
use Rattle.std.specs.Prelude.{◌≡◌, ℕ, ◌≤◌, ◌<◌, List, Contains}
use Rattle.aba_laws.specs.semantics.specs.AbaFrameworks.{Aba, IsInTheory, collective_of}
use Rattle.aba_laws.specs.semantics.specs.Collectives.{IsUnattacked}
use Rattle.aba_laws.specs.semantics.specs.Rules.{Rule, Derives}
use Rattle.meaning_atoms.specs.declared.atom.Closure.{Closure}
use Rattle.meaning_atoms.specs.declared.atom.Closure.TheVariants.{Own, Rest}

-- c is a contrary of the assumption a
abbrev pub HasContrary : Aba → ℕ → ℕ → Type 0
HasContrary f a c = Contains f.contraries (a, c)

-- a is an assumption, and has no contrary from i to just before j
pub record HasNoContrary (f : Aba) (a i j : ℕ) : Type 0 where
  pub assumption : Contains f.assumptions a
  pub none : (c : ℕ) → HasContrary f a c → i ≤ c → c < j → ⊥

-- what the set derives, or what the assumptions derive that the set does not attack
abbrev pub IsInClosure : Aba → List ℕ → Closure → ℕ → Type 0
IsInClosure f s Own x = IsInTheory f s x
IsInClosure f s Rest x = Derives f.rules (IsUnattacked (collective_of f) s) x

-- a is an assumption, and some contrary of it, of number i or more, is in the closure
pub record HasHit (f : Aba) (s : List ℕ) (k : Closure) (a i : ℕ) : Type 0 where
  pub assumption : Contains f.assumptions a
  pub contrary : ℕ
  pub is : HasContrary f a contrary
  pub late : i ≤ contrary
  pub derived : IsInClosure f s k contrary

-- a rule of this number is there, of which P holds
pub record HasRule (f : Aba) (number : ℕ) (P : Rule → Type 0) : Type 0 where
  pub rule : Rule
  pub there : Contains f.rules rule
  pub numbered : rule.number ≡ number
  pub says : P rule

-- the rule is there and heads h
abbrev pub HasHead : Aba → ℕ → ℕ → Type 0
HasHead f r h = HasRule f r (λ rule. rule.head ≡ h)

-- no rule that heads h has a number from i to just before j
abbrev pub HasNoHead : Aba → ℕ → ℕ → ℕ → Type 0
HasNoHead f h i j = (rule : Rule) → Contains f.rules rule → rule.head ≡ h → i ≤ rule.number → rule.number < j → ⊥

-- the rule is there and has x in its body
abbrev pub HasBodyAtom : Aba → ℕ → ℕ → Type 0
HasBodyAtom f r x = HasRule f r (λ rule. Contains rule.body x)

-- no atom of the rule's body has a number from i to just before j
abbrev pub HasNoAtom : ℕ → ℕ → Rule → Type 0
HasNoAtom i j rule = (y : ℕ) → Contains rule.body y → i ≤ y → y < j → ⊥

-- the rule is there and has no such atom
abbrev pub HasBodyGap : Aba → ℕ → ℕ → ℕ → Type 0
HasBodyGap f r i j = HasRule f r (HasNoAtom i j)

-- some atom of the rule's body, of number i or more, is not in the closure
pub record MissesAtom (f : Aba) (s : List ℕ) (k : Closure) (i : ℕ) (rule : Rule) : Type 0 where
  pub missed : ℕ
  pub member : Contains rule.body missed
  pub late : i ≤ missed
  pub outside : IsInClosure f s k missed → ⊥

-- the rule is there and has such an atom
abbrev pub HasMiss : Aba → List ℕ → Closure → ℕ → ℕ → Type 0
HasMiss f s k r i = HasRule f r (MissesAtom f s k i)

-- some rule of number i or more heads x and has its whole body in the closure
pub record HasSupport (f : Aba) (s : List ℕ) (k : Closure) (x i : ℕ) : Type 0 where
  pub rule : Rule
  pub there : Contains f.rules rule
  pub late : i ≤ rule.number
  pub head : rule.head ≡ x
  pub body : (y : ℕ) → Contains rule.body y → IsInClosure f s k y
