-- What the form of an assumption-based framework gives: rules by number, contraries of assumptions, and flatness.
use Rattle.std.proofs.Common.{◌≡◌, ◌≤◌, ℕ, List, refl, sym, subst, ⊎_elim, arith}
use Rattle.std.specs.Prelude.{Contains}
use Rattle.meaning_atoms.specs.semantics.specs.AbaFrameworks.{Aba, AttacksAssumption, IsAba, IsRuleOf, collective_of}
use Rattle.meaning_atoms.specs.semantics.specs.Collectives.{IsUnattacked}
use Rattle.meaning_atoms.specs.semantics.specs.Rules.{Rule, Derives, given, by_rule}
use Rattle.meaning_atoms.specs.aba_laws.proofs.AbaLemmas.{aba_lawful}
use Rattle.meaning_atoms.specs.aba_laws.proofs.CollectiveSets.{rest_of}
use Rattle.meaning_atoms.specs.aba_laws.proofs.DerivationLemmas.{derives_more}
use Rattle.meaning_atoms.specs.declared.atom.Closure.{Closure}
use Rattle.meaning_atoms.specs.declared.atom.Closure.TheVariants.{Own, Rest}
use Rattle.meaning_atoms.specs.AbaReadings.{HasContrary, HasHit, IsInClosure, MissesAtom}
use Rattle.meaning_atoms.specs.Worlds.{IsAbaWorld}
use Rattle.meaning_atoms.proofs.AbaDecided.{decide_closure}
use Rattle.lists.proofs.RisingLists.{same_item}

module _ (f : Aba) (form : IsAba f) where
  -- rules with the same number are one
  pub same_rule : (q r : Rule) → Contains f.rules q → Contains f.rules r → q.number ≡ r.number → q ≡ r
  same_rule q r cq cr e = same_item (λ (x : Rule). x.number) f.rules q r form.numbers_rise cq cr e

  -- what has a contrary is an assumption
  pub has_assumption : (a c : ℕ) → HasContrary f a c → Contains f.assumptions a
  has_assumption a c h = (form.contraries_are a c h).0

  -- the set attacks the assumption where it derives a contrary
  pub attacks_by : (s : List ℕ) (a c : ℕ) → HasContrary f a c → Derives f.rules (Contains s) c
      → AttacksAssumption f s a
  attacks_by s a c h d = record { contrary = c; is = h; derived = d }

  -- a contrary that is in a closure hits the assumption, from the first number on
  pub hit_by : (s : List ℕ) (k : Closure) (a c : ℕ) → HasContrary f a c → IsInClosure f s k c → HasHit f s k a 1
  hit_by s k a c h derived = record {
    assumption = has_assumption a c h;
    contrary = c;
    is = h;
    late = (form.contraries_are a c h).1.low;
    derived = derived;
  }

  -- the set's own closure hits what the set attacks
  pub attack_hits : (s : List ℕ) (a : ℕ) → AttacksAssumption f s a → HasHit f s Own a 1
  attack_hits s a at = hit_by s Own a at.contrary at.is at.derived

  -- an assumption that follows is given: no rule heads it
  pub assumption_given : (P : ℕ → Type 0) (a : ℕ) → Contains f.assumptions a → Derives f.rules P a → P a
  assumption_given P a is (given _ p) = p
  assumption_given P a is (by_rule r _ there head body) =
      absurd ((form.rules_are r there).flat (subst (λ x. Contains f.assumptions x) (sym head) is))

  -- what follows is an atom, where what is given is
  pub derived_low : (P : ℕ → Type 0) → ((x : ℕ) → P x → 1 ≤ x) → (x : ℕ) → Derives f.rules P x → 1 ≤ x
  derived_low P low x (given _ p) = low x p
  derived_low P low x (by_rule r _ there head body) =
      let first = (form.rules_are r there).head.low in omega (arith, head)

-- the set of all that the set does not attack derives what the rest does
pub rest_derives : (f : Aba) (s : List ℕ) (x : ℕ) → IsInClosure f s Rest x
    → (rest : List ℕ) × ((y : ℕ) → Contains rest y → IsUnattacked (collective_of f) s y)
    × Derives f.rules (Contains rest) x
rest_derives f s x d =
    let made = rest_of (collective_of f) (aba_lawful f) s in (
      made.0,
      λ y c. (made.1 y).0 c,
      derives_more f.rules (IsUnattacked (collective_of f) s) (Contains made.0) (λ y u. (made.1 y).1 u) x d,
    )

-- what a closure has without rules
abbrev pub IsGivenIn : Aba → List ℕ → Closure → ℕ → Type 0
IsGivenIn f s Own x = Contains s x
IsGivenIn f s Rest x = IsUnattacked (collective_of f) s x

-- either closure is what follows from what it has without rules
pub in_closure : (f : Aba) (s : List ℕ) (k : Closure) (x : ℕ) → Derives f.rules (IsGivenIn f s k) x
    → IsInClosure f s k x
in_closure f s Own x d = d
in_closure f s Rest x d = d

pub of_closure : (f : Aba) (s : List ℕ) (k : Closure) (x : ℕ) → IsInClosure f s k x
    → Derives f.rules (IsGivenIn f s k) x
of_closure f s Own x d = d
of_closure f s Rest x d = d

pub given_low : (f : Aba) (s : List ℕ) (k : Closure) → IsAbaWorld f s → (x : ℕ) → IsGivenIn f s k x → 1 ≤ x
given_low f s Own ok x c = (ok.members x c).low
given_low f s Rest ok x u = (ok.framework.form.assumptions_are x u.live).low

-- the head of a rule whose body is in a closure is in it
pub head_follows : (f : Aba) (s : List ℕ) (k : Closure) (r : Rule) → Contains f.rules r
    → ((y : ℕ) → Contains r.body y → IsInClosure f s k y) → IsInClosure f s k r.head
head_follows f s k r there body =
    in_closure f s k r.head (by_rule r r.head there refl (λ y c. of_closure f s k y (body y c)))

-- a rule whose body no atom from 1 on misses has it in the closure
pub unmissed : (f : Aba) (s : List ℕ) (k : Closure) (r : Rule) → IsRuleOf f r → (MissesAtom f s k 1 r → ⊥)
    → (y : ℕ) → Contains r.body y → IsInClosure f s k y
unmissed f s k r form none y c =
    ⊎_elim (λ h. h)
    (λ no. absurd (none (record { missed = y; member = c; late = (form.body y c).low; outside = no })))
    (decide_closure f s k y)
