-- What the slow program decides, and how a set stands to one other set there.
use Rattle.std.specs.Prelude.{◌≡◌, ℕ, List, Contains, map, slice_index_or}
use Rattle.lists.specs.Members.{IsWithin}
use Rattle.semantics.specs.Laws.{HasSameMembers}
use Rattle.semantics.specs.Collectives.{Collective, IsConflictFree, IsAdmissible, IsComplete, IsGrounded, IsPreferred, IsStable, IsInAllPreferred, IsIdeal}
use Rattle.semantics.specs.Rules.{Rule, IsClosureOf}
use Rattle.semantics.specs.AbaFrameworks.{Aba, collective_of}
use Rattle.aba_laws.specs.declared.aba_lists.AbaLists.{AbaLists}
use Rattle.aba_laws.specs.declared.aba_lists.PlainRule.{PlainRule}
use Rattle.aba_laws.specs.declared.deciding.Notion.{Notion}
use Rattle.aba_laws.specs.declared.deciding.Notion.TheVariants.{ConflictFree, Admissible, Complete, Grounded, Preferred, Stable, InAllPreferred, Ideal}
use Rattle.aba_laws.specs.declared.theories.Theory.{Theory}

abbrev pub rule_of : PlainRule → Rule
rule_of r = record { number = r.number; head = r.head; body = r.body.now }

-- the framework that the lists give
abbrev pub AbaOf : AbaLists → Aba
AbaOf lists = record {
  atoms = lists.atoms;
  assumptions = lists.assumptions.now;
  contraries = lists.contraries.now;
  rules = map rule_of lists.rules.now;
  next = lists.next;
}

-- the set meets the notion
abbrev pub IsOfNotion : Notion → Aba → List ℕ → Type 0
IsOfNotion ConflictFree f s = IsConflictFree (collective_of f) s
IsOfNotion Admissible f s = IsAdmissible (collective_of f) s
IsOfNotion Complete f s = IsComplete (collective_of f) s
IsOfNotion Grounded f s = IsGrounded (collective_of f) s
IsOfNotion Preferred f s = IsPreferred (collective_of f) s
IsOfNotion Stable f s = IsStable (collective_of f) s
IsOfNotion InAllPreferred f s = IsInAllPreferred (collective_of f) s
IsOfNotion Ideal f s = IsIdeal (collective_of f) s

-- the rule at an index, whose body is among the derived atoms
pub record IsReady (rules : List PlainRule) (derived : List ℕ) (index : ℕ) : Type 0 where
  pub body : (d : PlainRule) → IsWithin (slice_index_or rules index d).body.now derived

-- the theory has exactly what its set derives
abbrev pub IsTheory : Aba → Theory → Type 0
IsTheory f t = IsClosureOf f.rules t.set t.derived

-- a theory whose set has these members
pub record IsListed (all : List Theory) (s : List ℕ) : Type 0 where
  pub theory : Theory
  pub member : Contains all theory
  pub same : HasSameMembers theory.set s

-- theories, among them one of each set of assumptions
pub record HasAllTheories (f : Aba) (all : List Theory) : Type 0 where
  pub theories : (t : Theory) → Contains all t → IsTheory f t
  pub sets : (s : List ℕ) → IsWithin s f.assumptions → IsListed all s

-- the pair begins with a and ends in an atom that is derived
pub record IsHitBy (derived : List ℕ) (a : ℕ) (p : ℕ × ℕ) : Type 0 where
  pub first : p.0 ≡ a
  pub second : Contains derived p.1

-- what is derived has a contrary of a
pub record HasContrary (f : Aba) (derived : List ℕ) (a : ℕ) : Type 0 where
  pub contrary : ℕ
  pub is : Contains f.contraries (a, contrary)
  pub there : Contains derived contrary

-- what is derived has a contrary of some member
pub record HitsMember (f : Aba) (derived set : List ℕ) : Type 0 where
  pub member : ℕ
  pub there : Contains set member
  pub hit : HasContrary f derived member

-- if the other set is one of assumptions that derives a contrary of a, this one derives a contrary of a member of it
pub record Answers (f : Aba) (derived : List ℕ) (a : ℕ) (t : Theory) : Type 0 where
  pub back : IsWithin t.set f.assumptions → HasContrary f t.derived a → HitsMember f derived t.set

-- if the other set is complete, this one lies in it
pub record IsInComplete (d : Collective) (s t : List ℕ) : Type 0 where
  pub within : IsComplete d t → IsWithin s t

-- if the other set is admissible and holds this one, it is no larger
pub record HasNoLarger (d : Collective) (s t : List ℕ) : Type 0 where
  pub back : IsAdmissible d t → IsWithin s t → IsWithin t s

-- if the other set is preferred, this one lies in it
pub record IsInPreferred (d : Collective) (s t : List ℕ) : Type 0 where
  pub within : IsPreferred d t → IsWithin s t

-- if the other set is part of every preferred one, this one holds it
pub record HoldsInAll (d : Collective) (s t : List ℕ) : Type 0 where
  pub back : IsInAllPreferred d t → IsWithin t s
