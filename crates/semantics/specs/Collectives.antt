-- Argumentation in which a set attacks as a whole, and the extensions of such a framework.
--
-- Source: S. Nielsen, S. Parsons, "A generalization of Dung's abstract framework for argumentation: arguing with sets
-- of attacking arguments", ArgMAS 2006. The notions are those of P. M. Dung, "On the acceptability of arguments and
-- its fundamental role in nonmonotonic reasoning, logic programming and n-person games", Artificial Intelligence 77
-- (1995), and, for ideal sets, of P. M. Dung, P. Mancarella, F. Toni, "Computing ideal sceptical argumentation",
-- Artificial Intelligence 171 (2007), with attacks by sets in the place of attacks by arguments; for stage sets, of
-- B. Verheij, "Two approaches to dialectical argumentation: admissible sets and argumentation stages", NAIC 1996; for
-- semi-stable sets, of
-- M. Caminada, S. Sá, J. Alcântara, W. Dvořák, "On the difference between assumption-based argumentation and abstract
-- argumentation", IfCoLog Journal of Logics and their Applications 2 (2015).
--
-- A set is any list of numbers, of which only the members count.
use Rattle.std.specs.Prelude.{◌⊎◌, ℕ, List, Contains}
use Rattle.lists.specs.Members.{IsWithin}
use Rattle.semantics.specs.declared.mode.Mode.{Mode}
use Rattle.semantics.specs.declared.mode.Mode.TheVariants.{Cf, Ad}

-- a framework with collective attacks: its live arguments, and which sets attack which arguments
pub record Collective : Type 1 where
  pub live : List ℕ
  pub attacks : List ℕ → ℕ → Type 0

-- the set attacks some member of the other
abbrev pub AttacksMember : Collective → List ℕ → List ℕ → Type 0
AttacksMember d s t = (a : ℕ) × Contains t a × d.attacks s a

-- the set attacks every set of live arguments that attacks a
abbrev pub Defends : Collective → List ℕ → ℕ → Type 0
Defends d s a = (t : List ℕ) → IsWithin t d.live → d.attacks t a → AttacksMember d s t

-- a live argument that the set does not attack
pub record IsUnattacked (d : Collective) (s : List ℕ) (a : ℕ) : Type 0 where
  pub live : Contains d.live a
  pub quiet : d.attacks s a → ⊥

-- a live argument that the set defends
pub record IsDefended (d : Collective) (s : List ℕ) (a : ℕ) : Type 0 where
  pub live : Contains d.live a
  pub defended : Defends d s a

-- live arguments, of which the set attacks none
pub record IsConflictFree (d : Collective) (s : List ℕ) : Type 0 where
  pub live : IsWithin s d.live
  pub apart : (a : ℕ) → Contains s a → d.attacks s a → ⊥

-- conflict-free, and defends each of its members
pub record IsAdmissible (d : Collective) (s : List ℕ) : Type 0 where
  pub conflict_free : IsConflictFree d s
  pub defended : (a : ℕ) → Contains s a → Defends d s a

-- admissible, and holds each live argument that it defends
pub record IsComplete (d : Collective) (s : List ℕ) : Type 0 where
  pub admissible : IsAdmissible d s
  pub closed : (a : ℕ) → Contains d.live a → Defends d s a → Contains s a

-- the least complete set
pub record IsGrounded (d : Collective) (s : List ℕ) : Type 0 where
  pub complete : IsComplete d s
  pub least : (t : List ℕ) → IsComplete d t → IsWithin s t

-- admissible, and within no larger admissible set
pub record IsPreferred (d : Collective) (s : List ℕ) : Type 0 where
  pub admissible : IsAdmissible d s
  pub maximal : (t : List ℕ) → IsAdmissible d t → IsWithin s t → IsWithin t s

-- conflict-free, and attacks every live argument outside it
pub record IsStable (d : Collective) (s : List ℕ) : Type 0 where
  pub conflict_free : IsConflictFree d s
  pub attacks_outside : (a : ℕ) → Contains d.live a → (Contains s a → ⊥) → d.attacks s a

-- a is a member of the set, or attacked by it: it lies in the set's range
abbrev pub IsInRange : Collective → List ℕ → ℕ → Type 0
IsInRange d s a = Contains s a ⊎ d.attacks s a

-- of the live arguments, the one set's range lies in the other's
abbrev pub IsRangeWithin : Collective → List ℕ → List ℕ → Type 0
IsRangeWithin d s t = (a : ℕ) → Contains d.live a → IsInRange d s a → IsInRange d t a

-- conflict-free, or admissible
abbrev pub IsOfMode : Mode → Collective → List ℕ → Type 0
IsOfMode Cf d s = IsConflictFree d s
IsOfMode Ad d s = IsAdmissible d s

-- of the mode, and no set of the mode has a larger range
pub record IsWidest (mode : Mode) (d : Collective) (s : List ℕ) : Type 0 where
  pub has_mode : IsOfMode mode d s
  pub widest : (t : List ℕ) → IsOfMode mode d t → IsRangeWithin d s t → IsRangeWithin d t s

-- admissible, and no admissible set has a larger range (Caminada et al. 2015)
abbrev pub IsSemiStable : Collective → List ℕ → Type 0
IsSemiStable d s = IsWidest Ad d s

-- conflict-free, and no conflict-free set has a larger range (Verheij 1996)
abbrev pub IsStage : Collective → List ℕ → Type 0
IsStage d s = IsWidest Cf d s

-- admissible, and part of every preferred set
pub record IsInAllPreferred (d : Collective) (s : List ℕ) : Type 0 where
  pub admissible : IsAdmissible d s
  pub within : (p : List ℕ) → IsPreferred d p → IsWithin s p

-- the largest admissible set that is part of every preferred set
pub record IsIdeal (d : Collective) (s : List ℕ) : Type 0 where
  pub in_all : IsInAllPreferred d s
  pub largest : (t : List ℕ) → IsInAllPreferred d t → IsWithin t s
